-- A guest who was served at a hut is served there from then on.
use Rattle.std.proofs.Common.{◌≡◌, ℕ, ◌<◌, true, List, ◌∷◌, [], ◌++◌, length, sym, refl, ap, subst, ◌∙◌, arith}
use Rattle.std.proofs.lemmas.Bool.{eq-eqb}
use Rattle.entry_log.specs.Vectors.{covers, joined_with}
use Rattle.journal.specs.History.{Kept, state_in, synced}
use Rattle.replica.specs.Model.{slip_after}
use Rattle.network.specs.Mail.{Mail, Agrees, ServedAgain, visited}
use Rattle.network.specs.Net.{Event, Net, Visits, after, huts, run, served, start}
use Rattle.network.specs.Replicas.{vector_in}
use Rattle.network.proofs.Holds.{durables, histories}
use Rattle.network.proofs.Mailed.{Agreed, calls_on, run_of, visits, visits_stand}
use Rattle.network.proofs.Numbers.{covers_all, covers_at, joined_at}
use Rattle.network.proofs.Parts.{Older, older_self}
use Rattle.network.proofs.Safety.{after_holds}
use Rattle.network.proofs.Slipping.{served_from}
use Rattle.network.proofs.Walk.{run-append}

-- what covers a slip covers it with all that it covers itself
covers_joined : (v slip : List ℕ) → length slip ≡ huts → covers v slip ≡ true → covers v (joined_with slip v) ≡ true
covers_joined v slip long t = covers_all v (joined_with slip v) (λ h lt. omega (arith, joined_at slip v h long lt, covers_at v slip t h lt))

module _ (m : Mail) (es : List Event) (agrees : Agrees m es) (g i : ℕ) (low : i < huts) (t : served (m.guest g) (m.hut i) ≡ true) where
  abbrev now : List Event
  now = es ++ Visits g i ∷ []

  seen : Agrees (visited g i m) now
  seen = visits m es agrees g i low t

  -- what was shown is durable
  at : (after now).hut i ≡ synced ((after es).hut i)
  at = sym (seen.kept i) ∙ rw (eq-eqb i i refl) (ap synced (agrees.kept i))

  shown-durable : Older (histories (after es) i) (durables (after now) i)
  shown-durable = subst (λ (k : Kept). Older (histories (after es) i) k.durable) (sym at) (older_self (histories (after es) i))

  covered : covers (vector_in ((after es).hut i)) (joined_with (m.guest g).slip (vector_in (m.hut i))) ≡ true
  covered =
      subst (λ (k : Kept). covers (vector_in k) (joined_with (m.guest g).slip (vector_in (m.hut i))) ≡ true) (agrees.kept i)
      (covers_joined (vector_in (m.hut i)) (m.guest g).slip (ap (λ x. length x.slip) (agrees.guests g) ∙ ((after_holds es).guests g).long) t)

pub served_again : ServedAgain
served_again m r g i low t n later same =
    let o = run_of m r in
    let a = o.1.agrees in
    let then = now m o.0 a g i low t in
    let first : Agreed (visited g i m) then = record { agrees = seen m o.0 a g i low t; standing = visits_stand m o.0 o.1 g i } in
    let w = calls_on (visited g i m) n later then first in
    let slip = slip_after (m.guest g).slip (state_in (m.hut i)) in
    let noted : (n.guest g).slip ≡ slip = same ∙ rw (eq-eqb g g refl) refl in
    let at : n.hut i ≡ (run w.0 (after then)).hut i = w.1.agrees.kept i ∙ ap (λ (x : Net). x.hut i) (run-append then w.0 start) in
    let knows = served_from (after then) (after_holds then) i (histories (after o.0) i) (shown-durable m o.0 a g i low t) slip (covered m o.0 a g i low t) w.0 in
    ap (covers (vector_in (n.hut i))) noted ∙ ap (λ (k : Kept). covers (vector_in k) slip) at ∙ knows
