-- What opening makes of the bytes of a history, whole or cut.
use Rattle.std.proofs.Common.{◌≡◌, ℕ, zero, suc, ◌+◌, ◌-◌, ◌≤◌, List, [], ◌∷◌, ◌++◌, length, take, drop, sym, refl, ap, ◌∙◌, inl, inr, append_assoc, append-nil, arith, length-append}
use Rattle.std.proofs.lemmas.List.{take-append-le, take_all}
use Rattle.std.proofs.lemmas.Bool.{cases_lt}
use Rattle.letters.specs.Answers.{short}
use Rattle.letters.specs.Laws.{EntryOk}
use Rattle.letters.proofs.Codes.{take_past}
use Rattle.journal.specs.History.{PlainRecord, Kept, history_of, crashed, state_with}
use Rattle.journal.specs.Records.{encode_record, bytes_of, read_record, replay_refusal, if_stands, if_read, history_from, history_in, entry_of, Stands}
use Rattle.journal.proofs.RecordForms.{codes_record, record_some}

-- a history has no more records than bytes
pub bytes_enough : (rs : List PlainRecord) → length rs ≤ length (bytes_of rs)
bytes_enough [] = omega arith
bytes_enough (r ∷ rs) = omega (arith, bytes_enough rs, record_some r, length-append (bytes_of rs) (encode_record r))

-- the bytes of a history tell it, and then what is behind them
tells_on : (hut : ℕ) (rs : List PlainRecord) (n : ℕ) (rest : List ℕ) → Stands hut rs → history_from (length rs + n) hut [] (bytes_of rs ++ rest) ≡ history_from n hut rs rest
tells_on hut [] n rest ok = ap (λ k. history_from k hut [] rest) (omega arith)
tells_on hut (r ∷ rs) n rest ok =
    ap (λ k. history_from k hut [] ((bytes_of rs ++ encode_record r) ++ rest)) (omega arith)
    ∙ ap (λ bs. history_from (length rs + suc n) hut [] bs) (append_assoc (bytes_of rs) (encode_record r) rest)
    ∙ tells_on hut rs (suc n) (encode_record r ++ rest) ok.2
    ∙ ap (λ a. if_read a (λ q left. if_stands (replay_refusal q (state_with hut rs)) (history_from n hut (q ∷ rs) left) rs) rs) ((codes_record r ok.0).round rest)
    ∙ ap (λ o. if_stands o (history_from n hut (r ∷ rs) rest) rs) ok.1

-- behind what is no record nothing is told
tells_no_more : (hut n : ℕ) (rs : List PlainRecord) (bs : List ℕ) → read_record bs ≡ short → history_from n hut rs bs ≡ rs
tells_no_more hut zero rs bs h = refl
tells_no_more hut (suc n) rs bs h = rw h refl

-- a history and a part record behind it tell the history
pub tells_history : (hut : ℕ) (rs : List PlainRecord) (part : List ℕ) → Stands hut rs → read_record part ≡ short → history_in hut (bytes_of rs ++ part) ≡ rs
tells_history hut rs part ok h =
    let enough = bytes_enough rs in
    let all = length (bytes_of rs ++ part) in
    let fuel : all ≡ length rs + (all - length rs) = omega (arith, enough, length-append (bytes_of rs) part) in
    ap (λ n. history_from n hut [] (bytes_of rs ++ part)) fuel
    ∙ tells_on hut rs (all - length rs) part ok
    ∙ tells_no_more hut (all - length rs) rs part h

pub tells_whole : (hut : ℕ) (rs : List PlainRecord) → Stands hut rs → history_in hut (bytes_of rs) ≡ rs
tells_whole hut rs ok = ap (history_in hut) (sym (append-nil (bytes_of rs))) ∙ tells_history hut rs [] ok refl

pub bytes_tell_history_lem : (hut : ℕ) (rs qs : List PlainRecord) → Stands hut rs → Stands hut qs → bytes_of rs ≡ bytes_of qs → rs ≡ qs
bytes_tell_history_lem hut rs qs ok ok' same = sym (tells_whole hut rs ok) ∙ ap (history_in hut) same ∙ tells_whole hut qs ok'

-- the first bytes of a history, if they reach to its end or beyond what is durable, are those of its older records, and a part of the next
pub record CutTo (pending durable : List PlainRecord) (n : ℕ) : Type 0 where
  pub lost : ℕ
  pub part : List ℕ
  pub bytes_are : take n (bytes_of (pending ++ durable)) ≡ bytes_of (drop lost pending ++ durable) ++ part
  pub part_is_short : read_record part ≡ short

-- where they end in the newest record, or behind it
cut_in :
    (r : PlainRecord) (pending durable : List PlainRecord) (n : ℕ) → EntryOk (entry_of r) → length (bytes_of (pending ++ durable)) ≤ n → CutTo (r ∷ pending) durable n
cut_in r pending durable n ok beyond =
    elim (cases_lt left (length (encode_record r))) [
      | inl lt ↦ record { lost = 1; part = take left (encode_record r); bytes_are = past; part_is_short = (codes_record r ok).cut left lt }
      | inr ge ↦
          record {
            lost = 0;
            part = [];
            bytes_are = past ∙ ap (λ bs. older ++ bs) (take_all left (encode_record r) ge) ∙ sym (append-nil (older ++ encode_record r));
            part_is_short = refl;
          }
    ]
  where
    older : List ℕ
    older = bytes_of (pending ++ durable)

    left : ℕ
    left = n - length older

    past : take n (older ++ encode_record r) ≡ older ++ take left (encode_record r)
    past = take_past older (encode_record r) n beyond

pub cut_to : (hut : ℕ) (pending durable : List PlainRecord) (n : ℕ) → Stands hut (pending ++ durable) → length (bytes_of durable) ≤ n → CutTo pending durable n
cut_to hut [] durable n ok h = record { lost = 0; part = []; bytes_are = take_all n (bytes_of durable) h ∙ sym (append-nil (bytes_of durable)); part_is_short = refl }
cut_to hut (r ∷ pending) durable n ok h =
    elim (cases_lt n (length (bytes_of (pending ++ durable)))) [
      | inl lt ↦ further (cut_to hut pending durable n ok.2 h) (omega arith)
      | inr ge ↦ cut_in r pending durable n ok.0 ge
    ]
  where
    further : CutTo pending durable n → n ≤ length (bytes_of (pending ++ durable)) → CutTo (r ∷ pending) durable n
    further c le =
        record {
          lost = suc c.lost;
          part = c.part;
          bytes_are = take-append-le n (bytes_of (pending ++ durable)) (encode_record r) le ∙ c.bytes_are;
          part_is_short = c.part_is_short;
        }

pub stands_older : (hut lost : ℕ) (pending durable : List PlainRecord) → Stands hut (pending ++ durable) → Stands hut (drop lost pending ++ durable)
stands_older hut zero pending durable ok = ok
stands_older hut (suc lost) [] durable ok = ok
stands_older hut (suc lost) (r ∷ pending) durable ok = stands_older hut lost pending durable ok.2

-- what is opened after a crash is a state that the replica was in at or after the last sync
pub opens_after_crash_lem :
    (k : Kept) (n : ℕ) → Stands k.hut (history_of k) → length (bytes_of k.durable) ≤ n
    → (lost : ℕ) × (history_in k.hut (take n (bytes_of (history_of k))) ≡ history_of (crashed lost k))
opens_after_crash_lem k n ok h =
    let c = cut_to k.hut k.pending k.durable n ok h in
    (c.lost, ap (history_in k.hut) c.bytes_are ∙ tells_history k.hut (drop c.lost k.pending ++ k.durable) c.part (stands_older k.hut c.lost k.pending k.durable ok) c.part_is_short)
