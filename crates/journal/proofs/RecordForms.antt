-- The bytes of a record: read back, found short where they are cut, and its only form.
use Rattle.std.proofs.Common.{◌≡◌, ℕ, ◌<◌, ◌≤◌, eqb, [], ◌∷◌, length, sym, refl, subst, arith, eqb-true}
use Rattle.bookings.specs.Plain.{PlainEntry}
use Rattle.bookings.specs.Ranges.{InRange}
use Rattle.bookings.proofs.Ranged.{in_range}
use Rattle.journal.specs.declared.limits.TheConstants.{RECORD_ROOM}
use Rattle.letters.specs.Format.{encode, read_one, reads}
use Rattle.letters.specs.Laws.{EntryOk}
use Rattle.letters.proofs.Codes.{Codes, codes_then, codes_map}
use Rattle.letters.proofs.Exact.{Exact, exact_got, exact_then, exact_cond, exact_out}
use Rattle.letters.proofs.OneEntry.{exact_entry}
use Rattle.letters.proofs.OneForm.{exact_one}
use Rattle.letters.proofs.Round.{codes_one, codes_entry}
use Rattle.letters.proofs.Sizes.{entry_small_lem}
use Rattle.journal.specs.declared.record.Record.{Record}
use Rattle.journal.specs.declared.record.Record.TheVariants as code
use Rattle.journal.specs.History.{PlainRecord, Tentative, Committed}
use Rattle.journal.specs.Records.{encode_record, read_entry_as, read_record, entry_of}
use Rattle.journal.specs.Views.{plain_record}

pub codes_record : (r : PlainRecord) → EntryOk (entry_of r) → Codes read_record (encode_record r) r
codes_record (Tentative e) ok = codes_then read_one _ (2 ∷ []) (encode e) 2 (Tentative e) (codes_one 2) (codes_map reads Tentative (encode e) e (codes_entry e ok))
codes_record (Committed e) ok = codes_then read_one _ (1 ∷ []) (encode e) 1 (Committed e) (codes_one 1) (codes_map reads Committed (encode e) e (codes_entry e ok))

abbrev RecordOk : PlainRecord → Type 0
RecordOk r = EntryOk (entry_of r)

exact_as : (n : ℕ) (kind : PlainEntry → PlainRecord) → ((e : PlainEntry) → n ∷ encode e ≡ encode_record (kind e)) → ((e : PlainEntry) → EntryOk e → RecordOk (kind e)) → Exact (n ∷ []) (read_entry_as kind) encode_record RecordOk
exact_as n kind same ok = exact_then (n ∷ []) reads encode EntryOk _ encode_record RecordOk exact_entry (λ e e-ok. exact_got (n ∷ encode e) (kind e) encode_record RecordOk (same e) (ok e e-ok))

pub exact_record : Exact [] read_record encode_record RecordOk
exact_record =
    exact_then [] read_one (λ n. n ∷ []) (λ n. n < 256) _ encode_record RecordOk exact_one
    (λ n small.
    exact_cond (n ∷ []) (eqb n 1) (read_entry_as Committed) _ encode_record RecordOk (λ is. at n 1 Committed (eqb-true n 1 is) (exact_as 1 Committed (λ e. refl) (λ e ok. ok)))
    (λ _. exact_cond (n ∷ []) (eqb n 2) (read_entry_as Tentative) _ encode_record RecordOk (λ is. at n 2 Tentative (eqb-true n 2 is) (exact_as 2 Tentative (λ e. refl) (λ e ok. ok)))
    (λ _. exact_out (n ∷ []) encode_record RecordOk)))
  where
    at : (n k : ℕ) (kind : PlainEntry → PlainRecord) → n ≡ k → Exact (k ∷ []) (read_entry_as kind) encode_record RecordOk → Exact (n ∷ []) (read_entry_as kind) encode_record RecordOk
    at n k kind is one = subst (λ j. Exact (j ∷ []) (read_entry_as kind) encode_record RecordOk) (sym is) one

-- no record takes more than its room, and each takes one at least
pub record_small : (r : PlainRecord) → InRange (entry_of r) → length (encode_record r) ≤ RECORD_ROOM
record_small (Tentative e) ok = omega (arith, entry_small_lem e ok)
record_small (Committed e) ok = omega (arith, entry_small_lem e ok)

pub record_some : (r : PlainRecord) → 1 ≤ length (encode_record r)
record_some (Tentative e) = omega arith
record_some (Committed e) = omega arith

pub record_ranged : (r : Record) → InRange (entry_of (plain_record r))
record_ranged (code.Committed e) = in_range e
record_ranged (code.Tentative e) = in_range e
