-- A letter that is heard: what its parts are read as, and those of one that is heard whole.
use Rattle.std.proofs.Common.{◌≡◌, ℕ, Bool, true, false, cond, eqb, List, [], ◌∷◌, length, refl, ap, ◌∙◌, arith}
use Rattle.std.proofs.lemmas.Bool.{eqb-true}
use Rattle.bookings.specs.Plain.{PlainEntry}
use Rattle.entry_log.specs.Waits.{PlainWaiting}
use Rattle.letters.specs.Answers.{Answer, got, short, out}
use Rattle.letters.specs.Format.{read_two, reads}
use Rattle.letters.specs.Letters.{Heard, heard, damaged, number, read_waiting, from_tentative, read_tentative, from_committed}
use Rattle.letters.specs.Rows.{Row, whole, stopped, torn, read_row}
use Rattle.letters.proofs.RowCodes.{row-stopped_some}

module _ (p : ℕ) (cs : List PlainEntry) (ws : List PlainWaiting) (k : ℕ) where
  abbrev pub Told : Heard
  Told = heard p cs ws k

  pub number-heard : (a : Answer ℕ) (f : ℕ → List ℕ → Heard) → number a f ≡ Told → (n : ℕ) × ((r : List ℕ) × ((a ≡ got n r) × (f n r ≡ Told)))
  number-heard (got n r) f h = (n, (r, (refl, h)))
  number-heard short f h = let z : ◌≡◌ {A = ℕ} 0 1 = cc in absurd (omega arith)
  number-heard out f h = let z : ◌≡◌ {A = ℕ} 0 1 = cc in absurd (omega arith)

  pub unless-damaged : (b : Bool) (x : Heard) → cond b damaged x ≡ Told → (b ≡ false) × (x ≡ Told)
  unless-damaged true x h = let z : ◌≡◌ {A = ℕ} 0 1 = cc in absurd (omega arith)
  unless-damaged false x h = (refl, h)

  pub if_heard : (b : Bool) (x : Heard) → cond b x damaged ≡ Told → (b ≡ true) × (x ≡ Told)
  if_heard true x h = (refl, h)
  if_heard false x h = let z : ◌≡◌ {A = ℕ} 0 1 = cc in absurd (omega arith)

module _ (p : ℕ) (cs : List PlainEntry) (ws : List PlainWaiting) where
  abbrev pub Whole : Heard
  Whole = heard p cs ws 0

  -- the tentative entries were all read, and nothing stands behind them
  pub tentative-heard :
      (q m : ℕ) (es : List PlainEntry) (bs : List ℕ) (row : Row PlainWaiting) → read_row read_waiting m bs ≡ row → from_tentative q es row ≡ Whole
      → (read_row read_waiting m bs ≡ whole ws []) × ((q ≡ p) × (es ≡ cs))
  tentative-heard q m es bs (whole vs r) is h =
      let end = if_heard p cs ws 0 (eqb (length r) 0) (heard q es vs 0) h in
      let vs-is : vs ≡ ws = cc in
      (is ∙ ap (λ ys. whole ys r) vs-is ∙ ap (whole ws) (none r (eqb-true (length r) 0 end.0)), (cc, cc))
    where
      none : (xs : List ℕ) → length xs ≡ 0 → xs ≡ []
      none [] e = refl
      none (x ∷ xs) e = absurd (omega (arith, e))
  tentative-heard q m es bs (stopped vs k) is h =
      let k-is : k ≡ 0 = cc in absurd (omega (arith, k-is, row-stopped_some read_waiting m bs vs k is))
  tentative-heard q m es bs torn is h = let z : ◌≡◌ {A = ℕ} 0 1 = cc in absurd (omega arith)

  -- the committed entries were all read
  pub committed-heard :
      (n q : ℕ) (bs : List ℕ) (row : Row PlainEntry) → read_row reads n bs ≡ row → from_committed n q row ≡ Whole
      → (es : List PlainEntry) × ((r : List ℕ) × ((read_row reads n bs ≡ whole es r) × (number (read_two r) (read_tentative n q es) ≡ Whole)))
  committed-heard n q bs (whole es r) is h = (es, (r, (is, h)))
  committed-heard n q bs (stopped es k) is h =
      let k-is : k ≡ 0 = cc in absurd (omega (arith, k-is, row-stopped_some reads n bs es k is))
  committed-heard n q bs torn is h = let z : ◌≡◌ {A = ℕ} 0 1 = cc in absurd (omega arith)
