-- What is heard of a letter and what is kept out are as many entries as its count fields say.
use Rattle.std.proofs.Common.{◌≡◌, ℕ, zero, suc, ◌+◌, ◌-◌, ◌^◌, ◌<◌, ◌≤◌, ◌⊎◌, eqb, ltb, List, [], ◌∷◌, ◌++◌, length, get_or, take, drop, sym, refl, ap, ◌∙◌, subst, inl, inr, append_assoc, arith}
use Rattle.std.specs.List.{flat_map}
use Rattle.std.proofs.lemmas.Bool.{ltb-false, eqb-true}
use Rattle.std.proofs.lemmas.List.{take-append-drop}
use Rattle.bookings.specs.Plain.{PlainEntry}
use Rattle.bookings.specs.Ranges.{Each}
use Rattle.entry_log.specs.Waits.{PlainWaiting}
use Rattle.entry_log.specs.declared.waiting.TheConstants.{MAX_LETTER_ENTRIES}
use Rattle.digest.specs.declared.TheConstants.{DIGEST_BYTES}
use Rattle.letters.specs.Answers.{Answer, got, short, out}
use Rattle.letters.specs.Counting.{CountsAddUp, Says}
use Rattle.letters.specs.Format.{encode, two, four, read_two, read_four, reads}
use Rattle.letters.specs.Laws.{Bytes, EntryOk, LetterOk, WaitingOk}
use Rattle.letters.specs.Letters.{Heard, encode_waiting, from_committed, from_tentative, heard, read_body, read_committed, read_placed, read_tentative, read_waiting, signed}
use Rattle.letters.specs.Rows.{Row, adds, read_row, row_after, stopped, torn, whole}
use Rattle.letters.proofs.Bytes.{bytes_drop}
use Rattle.letters.proofs.Exact.{Exact}
use Rattle.letters.proofs.HeardWhole.{if_heard, number-heard, unless-damaged}
use Rattle.letters.proofs.OneEntry.{exact_entry}
use Rattle.letters.proofs.OneForm.{exact_four, exact_two}
use Rattle.letters.proofs.OneLetter.{bytes_take, exact_waiting, three_parts}
use Rattle.letters.proofs.RowCodes.{row_exact, row-stopped_some}
use Rattle.letters.specs.declared.limits.TheConstants.{EMPTY_LETTER_BYTES}

-- a row that stops: what stands before the first that is out of range, in its one form, and how
-- many are kept out
abbrev Stopped : {A : Type 0} → (A → List ℕ) → (A → Type 0) → ℕ → List ℕ → List A → ℕ → Type 0
Stopped enc P n bs xs k =
    ((r : List ℕ) × (bs ≡ flat_map enc xs ++ r)) × (length xs + k ≡ n) × Each P xs

adds-stopped :
    {A :
    Type 0} (x : A) (row : Row A) (xs : List A) (k : ℕ) → adds x row ≡ stopped xs k
    → (ys : List A) × ((row ≡ stopped ys k) × (x ∷ ys ≡ xs))
adds-stopped x (whole ys s) xs k h = let z : ◌≡◌ {A = ℕ} 0 1 = cc in absurd (omega arith)
adds-stopped x (stopped ys j) xs k h = (ys, (ap (stopped ys) (let j-is : j ≡ k = cc in j-is), cc))
adds-stopped x torn xs k h = let z : ◌≡◌ {A = ℕ} 0 1 = cc in absurd (omega arith)

row_stops :
    {A :
    Type 0} (read : List ℕ → Answer A) (enc : A → List ℕ) (P : A → Type 0) → Exact [] read enc P
    → (n : ℕ) (bs : List ℕ) (xs : List A) (k : ℕ) → Bytes bs → read_row read n bs ≡ stopped xs k
    → Stopped enc P n bs xs k
row_stops read enc P one zero bs xs k bytes h = let z : ◌≡◌ {A = ℕ} 0 1 = cc in absurd (omega arith)
row_stops {A} read enc P one (suc n) bs xs k bytes h =
    first (row_stops read enc P one n) (read bs) refl h
  where
    first :
        ((s : List ℕ) (ys : List A) (j : ℕ) → Bytes s → read_row read n s ≡ stopped ys j
        → Stopped enc P n s ys j)
        → (a : Answer A) → read bs ≡ a → row_after (suc n) a (λ x r. adds x (read_row read n r))
        ≡ stopped xs k → Stopped enc P (suc n) bs xs k
    first further (got x s) is h =
        let here = one bs x s bytes is in
        let split = adds-stopped x (read_row read n s) xs k h in
        let more = further s split.0 k here.1.1 split.1.0 in
        subst (λ zs. Stopped enc P (suc n) bs zs k) split.1.1 (
          (
            more.0.0,
            here.0 ∙ ap (λ t. enc x ++ t) more.0.1
                ∙ sym (append_assoc (enc x) (flat_map enc split.0) more.0.0),
          ),
          omega (arith, more.1),
          (here.1.0, more.2),
        )
    first further short is h = let z : ◌≡◌ {A = ℕ} 0 1 = cc in absurd (omega arith)
    first further out is h =
        let none : [] ≡ xs = cc in
        let all : suc n ≡ k = cc in
        subst (λ zs. Stopped enc P (suc n) bs zs k) none ((bs, refl), omega (arith, all), tt)

module _ (p : ℕ) (cs : List PlainEntry) (ws : List PlainWaiting) (k : ℕ) where
  abbrev Is : Heard → Type 0
  Is h = h ≡ heard p cs ws k

  -- the tentative entries
  tentative-counted :
      (q m : ℕ) (es : List PlainEntry) (bs : List ℕ) → Bytes bs → (row : Row PlainWaiting)
      → read_row read_waiting m bs ≡ row → Is (from_tentative q es row)
      → (q ≡ p) × (es ≡ cs) × (length ws + k ≡ m) × Each WaitingOk ws
  tentative-counted q m es bs bytes (whole vs r) is h =
      let end = if_heard p cs ws k (eqb (length r) 0) (heard q es vs 0) h in
      let row = row_exact read_waiting encode_waiting WaitingOk exact_waiting m bs vs r bytes is in
      let vs-is : vs ≡ ws = cc in
      let k-is : 0 ≡ k = cc in (
        cc,
        cc,
        omega (arith, row.1.0.0, ap (λ l. length l) vs-is, k-is),
        subst (Each WaitingOk)
            vs-is row.1.0.1,
      )
  tentative-counted q m es bs bytes (stopped vs j) is h =
      let row = row_stops read_waiting encode_waiting WaitingOk exact_waiting m bs vs j bytes is in
      let vs-is : vs ≡ ws = cc in
      let k-is : j ≡ k = cc in (
        cc,
        cc,
        omega (arith, row.1, ap (λ l. length l) vs-is, k-is),
        subst (Each WaitingOk) vs-is
            row.2,
      )
  tentative-counted q m es bs bytes torn is h = let z : ◌≡◌ {A = ℕ} 0 1 = cc in absurd (omega arith)

  -- what the bytes between the first and the digest say
  abbrev BodySays : List ℕ → ℕ → Type 0
  BodySays bs said =
      (n : ℕ) × (rest : List ℕ) × (bs ≡ two n ++ (four p ++ (flat_map encode cs ++ rest)))
      × (said ≤ MAX_LETTER_ENTRIES)
      × (((length cs < n) × (ws ≡ []) × (said ≡ n))
      ⊎ ((m : ℕ) × (more : List ℕ) × (rest ≡ two m ++ more) × (length cs ≡ n) × (said ≡ n + m)))

  abbrev Counted : List ℕ → Type 0
  Counted bs =
      LetterOk (record { place = p; committed = cs; tentative = ws })
      × ((said : ℕ) × BodySays bs said × (length cs + length ws + k ≡ said))

  -- what stands in front of the committed entries
  fields :
      (n q : ℕ) (bs r s t : List ℕ) → bs ≡ two n ++ r → r ≡ four q ++ s → q ≡ p → s
      ≡ flat_map encode cs ++ t → bs ≡ two n ++ (four p ++ (flat_map encode cs ++ t))
  fields n q bs r s t a b same c =
      a ∙ ap (λ x. two n ++ x) b ∙ ap (λ x. two n ++ (four x ++ s)) same
      ∙ ap (λ x. two n ++ (four p ++ x)) c

  committed-counted :
      (n q : ℕ) (bs r s : List ℕ) → bs ≡ two n ++ r → r ≡ four q ++ s → q < 2 ^ 32 → Bytes s
      → n ≤ MAX_LETTER_ENTRIES
      → (row : Row PlainEntry) → read_row reads n s ≡ row → Is (from_committed n q row) → Counted bs
  committed-counted n q bs r s a b low bytes small (whole es t) is h =
      let c = row_exact reads encode EntryOk exact_entry n s es t bytes is in
      let count = number-heard p cs ws k (read_two t) (read_tentative n q es) h in
      let m = count.0 in
      let u = count.1.0 in
      let d = exact_two t m u c.1.1 count.1.1.0 in
      let few = unless-damaged p cs ws k (ltb MAX_LETTER_ENTRIES (n + m)) _ count.1.1.1 in
      let last = tentative-counted q m es u d.1.1 (read_row read_waiting m u) refl few.1 in
      let most = ltb-false MAX_LETTER_ENTRIES (n + m) few.0 in
      let all = ap (λ (l : List PlainEntry). length l) last.1 in (
        record {
          place_ok = subst (λ x. x < 2 ^ 32) last.0 low;
          committed_ok = subst (Each EntryOk) last.1 c.1.0.1;
          tentative_ok = last.3;
          few = omega (arith, last.2, most, all, c.1.0.0);
        },
        (
          n + m,
          (
            n,
            t,
            fields n q bs r s t a b last.0
                (c.0 ∙ ap (λ xs. flat_map encode xs ++ t) last.1),
            most,
            inr
                (m, u, d.0, omega (arith, all, c.1.0.0), refl),
          ),
          omega (arith, last.2, all, c.1.0.0),
        ),
      )
  committed-counted n q bs r s a b low bytes small (stopped es j) is h =
      let c = row_stops reads encode EntryOk exact_entry n s es j bytes is in
      let q-is : q ≡ p = cc in
      let es-is : es ≡ cs = cc in
      let none : [] ≡ ws = cc in
      let j-is : j ≡ k = cc in
      let all = ap (λ (l : List PlainEntry). length l) es-is in
      let no = ap (λ (l : List PlainWaiting). length l) none in
      let some = row-stopped_some reads n s es j is in (
        record {
          place_ok = subst (λ x. x < 2 ^ 32) q-is low;
          committed_ok = subst (Each EntryOk) es-is c.2;
          tentative_ok = subst (Each WaitingOk) none tt;
          few = omega (arith, small, all, no, c.1);
        },
        (
          n,
          (
            n,
            c.0.0,
            fields n q bs r s c.0.0 a b q-is
                (c.0.1 ∙ ap (λ xs. flat_map encode xs ++ c.0.0) es-is),
            small,
            inl
                (omega (arith, some, all, c.1), sym none, refl),
          ),
          omega (arith, all, no, j-is, c.1),
        ),
      )
  committed-counted n q bs r s a b low bytes small torn is h =
      let z : ◌≡◌ {A = ℕ} 0 1 = cc in absurd (omega arith)

  body-counted : (bs : List ℕ) → Bytes bs → Is (read_body bs) → Counted bs
  body-counted bs bytes h =
      let one = number-heard p cs ws k (read_two bs) read_placed h in
      let n = one.0 in
      let r = one.1.0 in
      let a = exact_two bs n r bytes one.1.1.0 in
      let next = number-heard p cs ws k (read_four r) (read_committed n) one.1.1.1 in
      let q = next.0 in
      let s = next.1.0 in
      let b = exact_four r q s a.1.1 next.1.1.0 in
      let small = unless-damaged p cs ws k (ltb MAX_LETTER_ENTRIES n) _ next.1.1.1 in
      committed-counted n q bs r s a.0 b.0 b.1.0 b.1.1 (ltb-false MAX_LETTER_ENTRIES n small.0)
      (read_row reads n s) refl small.1

  -- the same of the whole letter, with its digest behind
  with_digest :
      (body last : List ℕ) (said : ℕ) → BodySays body said → Says ((66 ∷ body) ++ last) p cs ws said
  with_digest body last said b =
      let whole-letter = ap (λ (x : List ℕ). (66 ∷ x) ++ last) b.2
      ∙ ap (λ x. 66 ∷ (two b.0 ++ (four p ++ x))) (append_assoc (flat_map encode cs) b.1 last) in (
        b.0,
        b.1 ++ last,
        whole-letter,
        b.3,
        elim b.4 [
          | inl s ↦ inl s
          | inr (m, more, is, all, sum) ↦ inr
              (m, more ++ last, ap (λ (x : List ℕ). x ++ last) is, all, sum)
        ],
      )

pub counts_add_up : CountsAddUp
counts_add_up bs p cs ws k bytes h =
    let long = unless-damaged p cs ws k (ltb (length bs) EMPTY_LETTER_BYTES) _ h in
    let first = if_heard p cs ws k (eqb (get_or bs 0 0) 66) _ long.1 in
    let sum = if_heard p cs ws k (signed bs) _ first.1 in
    let mid = take (length bs - (1 + DIGEST_BYTES)) (drop 1 bs) in
    let front = three_parts bs (ltb-false (length bs) EMPTY_LETTER_BYTES long.0) in
    let body =
    body-counted p cs ws k mid (bytes_take (length bs - (1 + DIGEST_BYTES)) (drop 1 bs) (bytes_drop 1 bs bytes))
    sum.1 in
    let head : take (length bs - DIGEST_BYTES) bs ≡ 66 ∷ mid =
    sym front ∙ ap (λ b. b ∷ mid) (eqb-true (get_or bs 0 0) 66 first.0) in
    let is : (66 ∷ mid) ++ drop (length bs - DIGEST_BYTES) bs ≡ bs =
    ap (λ (x : List ℕ). x ++ drop (length bs - DIGEST_BYTES) bs) (sym head)
    ∙ take-append-drop (length bs - DIGEST_BYTES) bs in (
      body.0,
      (
        body.1.0,
        subst (λ (x : List ℕ). Says x p cs ws body.1.0) is
            (with_digest p cs ws k mid (drop (length bs - DIGEST_BYTES) bs) body.1.0 body.1.1),
        body.1.2,
      ),
    )
