-- A replica and its journal stay in step: a record more, and a sync.
use Rattle.std.proofs.Common.{◌≡◌, ℕ, ◌+◌, ◌*◌, ◌≤◌, true, cond, List, [], ◌∷◌, ◌++◌, length, None, Option, sym, ap, ◌∙◌, subst, arith, length-append}
use Rattle.bookings.specs.Plain.{PlainMark, PlainKind, PlainEntry}
use Rattle.bookings.specs.declared.book.TheConstants.{CAPACITY}
use Rattle.journal.specs.declared.limits.TheConstants.{RECORD_ROOM}
use Rattle.letters.specs.Laws.{EntryOk}
use Rattle.entry_log.specs.Logs.{all_of, first_entry}
use Rattle.replica.specs.Model.{State, entry_made, made, next_mark, is_primary, make_refusal, take_tentative_refusal, take_committed_refusal}
use Rattle.journal.specs.History.{PlainRecord, Tentative, Committed, Kept, history_of, state_in, wrote, synced, unless, makes, commits, commits_entry, takes_tentative, takes_committed}
use Rattle.journal.specs.Keeping.{Keeps, Follows, most_bytes}
use Rattle.journal.specs.Records.{encode_record, bytes_of, with_record, replay_refusal, entry_of, Stands}
use Rattle.journal.proofs.RecordForms.{record_small}
use Rattle.journal.proofs.Replaying.{with_one_more}
use Rattle.journal.proofs.Standing.{records_few, make-stands}

-- no record takes more than its room
bytes-few : (hut : ℕ) (rs : List PlainRecord) → Stands hut rs → length (bytes_of rs) ≤ RECORD_ROOM * length rs
bytes-few hut [] ok = omega arith
bytes-few hut (r ∷ rs) ok = omega (arith, bytes-few hut rs ok.2, record_small r ok.0.ranged, length-append (bytes_of rs) (encode_record r))

module _ (had has : List ℕ → ℕ → Type 0) (s t : State) (k : Kept) (in_step : Keeps had s k) where
  follows_state : (r : PlainRecord) → Follows r s t → t ≡ state_in (wrote r k)
  follows_state r next = next.1 ∙ ap (with_record r) in_step.state ∙ with_one_more k.hut r (history_of k)

  -- a record that can stand, written behind the others
  pub keeps_wrote :
      (r : PlainRecord) → EntryOk (entry_of r) → Follows r s t → has (bytes_of (history_of k) ++ encode_record r) (length (bytes_of k.durable)) → Keeps has t (wrote r k)
  keeps_wrote r ok next bytes =
      record {
        bytes = bytes;
        state = follows_state r next;
        stands = (ok, ap (replay_refusal r) (sym in_step.state) ∙ next.0, in_step.stands);
      }

  -- it is within the bytes that a history can ever need
  pub record_fits : (r : PlainRecord) → EntryOk (entry_of r) → Follows r s t → length (all_of t.log) ≤ CAPACITY → length (bytes_of (history_of k)) + length (encode_record r) ≤ most_bytes
  record_fits r ok next few =
      let below =
      records_few k.hut r (history_of k) in_step.stands (ap (replay_refusal r) (sym in_step.state) ∙ next.0)
      (subst (λ (x : State). length (all_of x.log) ≤ CAPACITY) (follows_state r next) few) in
      omega (arith, record_small r ok.ranged, bytes-few k.hut (history_of k) in_step.stands, below)

  -- both
  pub keeps_wrote-synced :
      (r : PlainRecord) → EntryOk (entry_of r) → Follows r s t → has (bytes_of (history_of k) ++ encode_record r) (length (bytes_of (history_of k) ++ encode_record r)) → Keeps has t (synced (wrote r k))
  keeps_wrote-synced r ok next bytes = record { bytes = bytes; state = follows_state r next; stands = (ok, ap (replay_refusal r) (sym in_step.state) ∙ next.0, in_step.stands) }

pub durable-within : (older rs : List PlainRecord) → length (bytes_of older) ≤ length (bytes_of (rs ++ older))
durable-within older [] = omega arith
durable-within older (r ∷ rs) = omega (arith, durable-within older rs, length-append (bytes_of (rs ++ older)) (encode_record r))

-- WHAT EACH CALL WRITES

-- an entry that was made
pub made_follows :
    (kind : PlainKind) (m : PlainMark) (s t : State) → make_refusal kind s ≡ None → m ≡ next_mark s → t ≡ made kind s → Follows (Tentative (record { mark = m; kind = kind })) s t
made_follows kind m s t q m-is t-is =
    subst (λ (n : PlainMark). Follows (Tentative (record { mark = n; kind = kind })) s t) (sym m-is) (make-stands kind s q, t-is)

module _ (s : State) (k : Kept) (is : s ≡ state_in k) where
  pub makes_is :
      (kind : PlainKind) (m : PlainMark) → make_refusal kind s ≡ None → m ≡ next_mark s → makes kind k ≡ wrote (Tentative (record { mark = m; kind = kind })) k
  makes_is kind m q m-is =
      ap (λ o. unless o k (wrote (Tentative (entry_made kind (state_in k))) k)) (ap (make_refusal kind) (sym is) ∙ q)
      ∙ ap (λ (n : PlainMark). wrote (Tentative (record { mark = n; kind = kind })) k) (ap next_mark (sym is) ∙ sym m-is)

  pub takes_tentative_is : (e : PlainEntry) (stood : List ℕ) → take_tentative_refusal e stood s ≡ None → takes_tentative e stood k ≡ wrote (Tentative e) k
  takes_tentative_is e stood q = ap (λ o. unless o k (wrote (Tentative e) k)) (ap (take_tentative_refusal e stood) (sym is) ∙ q)

  pub takes_committed_is : (place : ℕ) (e : PlainEntry) → take_committed_refusal place e.mark s ≡ None → takes_committed place e k ≡ wrote (Committed e) k
  takes_committed_is place e q = ap (λ o. unless o k (wrote (Committed e) k)) (ap (take_committed_refusal place e.mark) (sym is) ∙ q)

  pub commits_is : (o : Option PlainEntry) → is_primary s ≡ true → first_entry s.log.tentative ≡ o → commits k ≡ commits_entry o k
  commits_is o primary first =
      ap (λ b. cond b (commits_entry (first_entry (state_in k).log.tentative) k) k) (ap is_primary (sym is) ∙ primary)
      ∙ ap (λ f. commits_entry f k) (ap (λ (x : State). first_entry x.log.tentative) (sym is) ∙ first)
