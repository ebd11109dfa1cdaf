-- What a stop leaves of some bytes it may leave of more, and opening that gives a history.
use Rattle.std.proofs.Common.{◌≡◌, ℕ, ◌≤◌, min, List, ◌++◌, drop, length, take, refl, sym, ap, ◌∙◌, arith}
use Rattle.std.proofs.lemmas.List.{take-append-le, take-take, length-take}
use Rattle.journal.specs.Finding.{Found, FoundFirst, FoundOf}
use Rattle.journal.specs.History.{PlainRecord, Kept, history_of, synced, wrote}
use Rattle.journal.specs.Laws.{OpensAfterStop}
use Rattle.journal.specs.Records.{Stands, bytes_of, encode_record, history_in}
use Rattle.journal.proofs.Keeping.{durable-within}
use Rattle.journal.proofs.Opening.{opens_after_crash_lem}
use Rattle.journal.proofs.Parts.{take_capped}

-- what is first of all that may be found stands among the bytes that are synced
pub first_synced :
    (bs held : List ℕ) (synced : ℕ) → synced ≤ length held → FoundFirst (Found held synced) bs → (length bs ≤ synced) × (take (length bs) held ≡ bs)
first_synced bs held synced within first =
    let e = first (take synced held) (synced, omega arith, refl) in
    let few : length bs ≤ synced = omega (arith, ap length e, length-take (length bs) (take synced held), length-take synced held) in
    (few, sym (take-take (length bs) synced held few) ∙ e)

pub synced_first :
    (bs held : List ℕ) (synced : ℕ) → length bs ≤ synced → take (length bs) held ≡ bs → FoundFirst (Found held synced) bs
synced_first bs held synced few e found f =
    ap (take (length bs)) f.2 ∙ take-take (length bs) f.0 held (omega (arith, f.1, few)) ∙ e

pub found_behind : (bs more : List ℕ) (synced : ℕ) (found : List ℕ) → synced ≤ length bs → Found bs synced found → Found (bs ++ more) synced found
found_behind bs more synced found within f =
    let n : ℕ = min f.0 (length bs) in
    let part = take_capped f.0 (length bs) bs (omega arith) in
    let front = take-append-le n bs more (omega arith) in
    (n, omega (arith, f.1, within), f.2 ∙ sym part ∙ sym front)

-- as if a record more were written, that a crash loses
pub found_wrote : (r : PlainRecord) (k : Kept) (found : List ℕ) → FoundOf k found → FoundOf (wrote r k) found
found_wrote r k found = found_behind (bytes_of (history_of k)) (encode_record r) (length (bytes_of k.durable)) found (durable-within k.durable k.pending)

-- what is found of all that is synced is found of it before that
pub found_before : (k : Kept) (found : List ℕ) → FoundOf (synced k) found → FoundOf k found
found_before k found f = (f.0, omega (arith, f.1, durable-within k.durable k.pending), f.2)

-- opening drops nothing that was synced
pub durable_found : (k : Kept) (found : List ℕ) → Stands k.hut (history_of k) → FoundOf k found → length (bytes_of k.durable) ≤ length (bytes_of (history_in k.hut found))
durable_found k found ok f =
    let o = opens_after_crash_lem k f.0 ok f.1 in
    omega (arith, durable-within k.durable (drop o.0 k.pending), ap (λ rs. length (bytes_of rs)) (ap (history_in k.hut) f.2 ∙ o.1))

pub opens_after_stop_lem : OpensAfterStop
opens_after_stop_lem k found ok f = let o = opens_after_crash_lem k f.0 ok f.1 in (o.0, ap (history_in k.hut) f.2 ∙ o.1)
