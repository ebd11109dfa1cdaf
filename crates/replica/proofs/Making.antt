-- An entry that was just made stands last.
use Rattle.std.proofs.Common.{◌≡◌, ℕ, ◌<◌, max, false, List, [], ◌∷◌, ◌++◌, sym, refl, ap, ◌∙◌, ⊎_elim, arith}
use Rattle.std.proofs.lemmas.List.{append_assoc}
use Rattle.std.proofs.lemmas.Bool.{ne_eqb, eq-eqb, cases_eq}
use Rattle.bookings.specs.Plain.{PlainMark, PlainEntry}
use Rattle.bookings.specs.declared.limits.TheConstants.{HUTS}
use Rattle.entry_log.proofs.Stamps.{top-append, into_last, highest-append, vector_more}
use Rattle.entry_log.specs.Logs.{PlainLog, all_of, has, top, add_tentative}
use Rattle.entry_log.specs.Vectors.{vector_of, noted, highest}

-- a mark above all stamps is new
pub above_new : (m : PlainMark) (es : List PlainEntry) → top es < m.stamp → has m es ≡ false
above_new m [] above = refl
above_new m (e ∷ es) above = rw (ne_eqb m.stamp e.mark.stamp (λ same. omega arith)) (above_new m es (omega arith))

pub made_last : (e : PlainEntry) (l : PlainLog) → top (all_of l) < e.mark.stamp → all_of (add_tentative e l) ≡ all_of l ++ e ∷ []
made_last e l above =
    let low : top l.tentative < e.mark.stamp = omega (arith, top-append l.committed l.tentative) in
    ap (λ t. l.committed ++ t) (into_last e l.tentative low) ∙ sym (append_assoc l.committed l.tentative (e ∷ []))

-- the highest stamps with an entry more at the end
pub top-push : (es : List PlainEntry) (e : PlainEntry) → top (es ++ e ∷ []) ≡ max e.mark.stamp (top es)
top-push es e = top-append es (e ∷ []) ∙ omega arith

pub vector_push : (es : List PlainEntry) (e : PlainEntry) → e.mark.hut < HUTS → vector_of (es ++ e ∷ []) ≡ noted e.mark (vector_of es)
vector_push es e in-huts =
    sym (vector_more es (es ++ e ∷ []) e in-huts (λ h. highest-append es (e ∷ []) h ∙ one-first h))
  where
    one-first : (h : ℕ) → max (highest es h) (highest (e ∷ []) h) ≡ highest (e ∷ es) h
    one-first h =
        ⊎_elim (λ same. rw (eq-eqb e.mark.hut h same) (omega arith)) (λ other. rw (ne_eqb e.mark.hut h other) (omega arith)) (cases_eq e.mark.hut h)
