-- What a crash leaves is told by the bytes that it leaves.
use Rattle.std.proofs.Common.{◌≡◌, ℕ, zero, suc, ◌+◌, ◌≤◌, List, [], ◌∷◌, ◌++◌, length, take, drop, vec_items, refl, sym, ap, ◌∙◌, append_assoc, arith, length-append}
use Rattle.std.proofs.Math.Seq.{drop-nil}
use Rattle.std.proofs.lemmas.List.{take-append-drop}
use Rattle.bookings.specs.Plain.{PlainEntry}
use Rattle.entry_log.specs.Logs.{PlainLog, into}
use Rattle.entry_log.specs.Order.{before}
use Rattle.journal.proofs.Opening.{opens_after_crash_lem}
use Rattle.journal.specs.History.{Kept, PlainRecord, Committed, Tentative, crashed, history_of, log_of, opened, state_with, synced}
use Rattle.journal.specs.Keeping.{InStep, InMemory, left_by, state_by}
use Rattle.journal.specs.Records.{Stands, bytes_of, history_in}
use Rattle.network.specs.Effects.{crash_leaves, reopens}
use Rattle.network.specs.Stages.{Hut}
use Rattle.network.proofs.Tests.{cond_by}
use Rattle.replica.specs.Model.{State}

into_longer : (e : PlainEntry) (es : List PlainEntry) → length (into e es) ≡ suc (length es)
into_longer e [] = refl
into_longer e (f ∷ fs) = cond_by (λ x. length x ≡ suc (suc (length fs))) (before e.mark f.mark) (e ∷ f ∷ fs) (f ∷ into e fs) (λ _. refl) (λ _. ap (λ n. suc n) (into_longer e fs))

-- so many records later more is committed, or just as many entries more are tentative
abbrev Grown : ℕ → PlainLog → PlainLog → Type 0
Grown n old new = (length old.committed ≤ length new.committed) × (length new.committed ≡ length old.committed → length new.tentative ≡ n + length old.tentative)

records_grow : (news olds : List PlainRecord) → Grown (length news) (log_of olds) (log_of (news ++ olds))
records_grow [] olds = (omega arith, λ same. omega arith)
records_grow (Tentative e ∷ rs) olds =
    let on = records_grow rs olds in (on.0, λ same. omega (arith, into_longer e (log_of (rs ++ olds)).tentative, on.1 same))
records_grow (Committed e ∷ rs) olds =
    let more = length-append (log_of (rs ++ olds)).committed (e ∷ []) in
    let on = (records_grow rs olds).0 in
    (omega (arith, on, more), λ same. absurd (omega (arith, on, more, same)))

log_changes : (r : PlainRecord) (news olds : List PlainRecord) → log_of (r ∷ news ++ olds) ≡ log_of olds → ⊥
log_changes r news olds same =
    let as_many = (records_grow (r ∷ news) olds).1 (ap (λ (l : PlainLog). length l.committed) same) in
    omega (arith, as_many, ap (λ (l : PlainLog). length l.tentative) same)

parted : (n : ℕ) (rs durable : List PlainRecord) → take n rs ++ (drop n rs ++ durable) ≡ rs ++ durable
parted n rs durable = sym (append_assoc (take n rs) (drop n rs) durable) ∙ ap (λ x. x ++ durable) (take-append-drop n rs)

-- what was lost is told by the log that is left
lost_one :
    (a b : ℕ) (pending durable : List PlainRecord) → log_of (drop a pending ++ durable) ≡ log_of (drop b pending ++ durable) → drop a pending ≡ drop b pending
lost_one a b [] durable same = drop-nil a ∙ sym (drop-nil b)
lost_one zero zero (r ∷ rs) durable same = refl
lost_one (suc a) (suc b) (r ∷ rs) durable same = lost_one a b rs durable same
lost_one zero (suc b) (r ∷ rs) durable same = absurd (log_changes r (take b rs) (drop b rs ++ durable) (ap (λ x. log_of (r ∷ x)) (parted b rs durable) ∙ same))
lost_one (suc a) zero (r ∷ rs) durable same = absurd (log_changes r (take a rs) (drop a rs ++ durable) (ap (λ x. log_of (r ∷ x)) (parted a rs durable) ∙ sym same))

-- what is opened is what was kept, but for so many of its newest records
pub reopened : (left : ℕ) (k : Kept) → Stands k.hut (history_of k) → (lost : ℕ) × (synced (crashed lost k) ≡ reopens left k)
reopened left k stands =
    let found = opens_after_crash_lem k (length (bytes_of k.durable) + left) stands (omega arith) in
    (found.0, ap (opened k.hut) (sym found.1))

-- and a replica that has the state which those bytes tell has just that
module _ (q p : Hut) (left lost : ℕ) (k : Kept) (was : InStep InMemory q k) (now : InStep InMemory p (synced (crashed lost k)))
    (told : state_by p ≡ state_with (state_by q).hut (history_in (state_by q).hut (left_by left q.journal.medium))) where
  left_is : left_by left q.journal.medium ≡ crash_leaves left k
  left_is = ap (λ n. take (n + left) (vec_items q.journal.medium.held)) was.bytes.1.1 ∙ ap (take (length (bytes_of k.durable) + left)) was.bytes.1.0

  found : (by : ℕ) × (synced (crashed by k) ≡ reopens left k)
  found = reopened left k was.stands

  same_state : state_with k.hut (history_of (crashed lost k)) ≡ state_with k.hut (history_of (crashed found.0 k))
  same_state =
      sym now.state ∙ told ∙ ap (λ (s : State). state_with s.hut (history_in s.hut (left_by left q.journal.medium))) was.state
      ∙ ap (λ bs. state_with k.hut (history_in k.hut bs)) left_is ∙ ap (λ (x : Kept). state_with k.hut x.durable) (sym found.1)

  pub crash_is : synced (crashed lost k) ≡ reopens left k
  crash_is =
      ap (λ rs. opened k.hut (rs ++ k.durable)) (lost_one lost found.0 k.pending k.durable (ap (λ (s : State). s.log) same_state)) ∙ found.1
