use Rattle.std.proofs.Common.{rules, ◌≡◌, ℕ, ltb, false, Bool, Option, Some, None, map, length, sym, ap, ◌∙◌, arith, MatchOption}
use Rattle.bookings.specs.Books.{place_from}
use Rattle.bookings.specs.Plain.{PlainMark, plain_mark}
use Rattle.entry_log.proofs.Known.{found_front, found_none}
use Rattle.entry_log.proofs.Putting.{has_parts}
use Rattle.entry_log.specs.Logs.{PlainLog, all_of, has}
use Rattle.entry_log.specs.Views.{log_in}
use Rattle.replica.proofs.replica.Replica.has_committed.Goals as goal

-- an entry is committed if it is found among the committed ones, of which there are n
front :
    (m : PlainMark) (l : PlainLog) (n : ℕ) (found : Option ℕ) (r : Bool) (post : ℕ → Type 0) → ((p : ℕ) → post p → r ≡ ltb p n) → n ≡ length l.committed
    → found ≡ place_from 0 m (map (λ e. e.mark) (all_of l)) → MatchOption found (r ≡ false) post → r ≡ has m l.committed
front m l n None r post means long is none = none ∙ sym (has_parts m l.committed l.tentative (found_none m 0 (all_of l) (sym is))).0
front m l n (Some p) r post means long is some = means p some ∙ ap (ltb p) (omega (arith, long)) ∙ sym (found_front m 0 p l.committed l.tentative (sym is))

pub returns : goal.returns
returns c =
    front (plain_mark c.args.mark.now) (log_in c.args.self.now.log) c.committed-committed.result c.find.result c.is_some_and.result _ (λ p h. search rules) c.committed-committed.ensures c.find.ensures c.is_some_and.ensures
