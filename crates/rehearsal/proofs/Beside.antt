-- The hut that is meant goes on, and each other keeps what it kept.
use Rattle.std.proofs.Common.{◌≡◌, ℕ, Result, Ok, Err, List, ◌<◌, map, length, get_or, arith, sym, ap, ◌∙◌, ⊎_elim, inl, inr}
use Rattle.std.proofs.lemmas.Bool.{cases_eq}
use Rattle.std.proofs.lemmas.List.{ext_get_or, get_or-map, length-map}
use Rattle.journal.specs.History.{Kept, synced}
use Rattle.journal.specs.Keeping.{state_by}
use Rattle.network.proofs.Stages.{put_here, put_elsewhere, some_hut}
use Rattle.network.proofs.Stands.{follows_same}
use Rattle.network.specs.Effects.{effect_of, refused_of}
use Rattle.network.specs.Net.{put}
use Rattle.network.specs.Stages.{Hut, SameHuts, Turns, bytes_sent, hut_at, huts_of}
use Rattle.network.specs.Stands.{Turned}
use Rattle.network.specs.declared.act.Act.{Act}
use Rattle.network.specs.declared.act.Done.{Done}
use Rattle.network.specs.declared.stage.Stage.{Stage}
use Rattle.network.specs.declared.unplayed.Unplayed.{Unplayed}
use Rattle.network.specs.declared.unplayed.Unplayed.TheVariants.{Memory, Refused, Failed}
use Rattle.replica.specs.Model.{State, fresh}
use Rattle.rehearsal.specs.Carrying.{BesideAt, placing}

-- of two values at one place the later one stands
put_over : (h g : ℕ) (k l : Kept) (f : ℕ → Kept) → g ≡ h → (j : ℕ) → put g k f j ≡ put h k (put h l f) j
put_over h g k l f same j = elim (cases_eq j h) [
  | inl here ↦ put_here g j k f (here ∙ sym same) ∙ sym (put_here h j k (put h l f) here)
  | inr other ↦
      put_elsewhere g j k f (λ e. other (e ∙ same)) ∙ sym (put_elsewhere h j l f other) ∙ sym (put_elsewhere h j k (put h l f) other)
]

pub beside_turned :
    (qs ps : List Hut) (i : ℕ) (step : Kept → Kept) → Turns qs ps i step → (kept : ℕ → Kept) → BesideAt qs i kept → BesideAt ps i kept
beside_turned qs ps i step turns kept (k, follows) =
    let h = hut_at qs i in
    let on = turns (put h k kept) follows in
    let now = step (put h k kept h) in
    (now, follows_same ps (put h now (put h k kept)) (put (hut_at ps i) now kept) (put_over h (hut_at ps i) now k kept (on.1 i)) on.0)

-- whatever it is told, done or not
pub beside_told :
    (s t : Stage) (i : ℕ) (act : Act) (r : Result Done Unplayed) → Turned s t i act r → (kept : ℕ → Kept) → BesideAt (huts_of s) i kept → BesideAt (huts_of t) i kept
beside_told s t i act (Ok d) turned kept had = beside_turned (huts_of s) (huts_of t) i (effect_of (bytes_sent s) act) turned kept had
beside_told s t i act (Err Memory) turned kept had =
    ⊎_elim (λ still. beside_turned (huts_of s) (huts_of t) i (λ k. k) still kept had) (λ on. beside_turned (huts_of s) (huts_of t) i synced on kept had) turned
beside_told s t i act (Err (Refused w)) turned kept had = beside_turned (huts_of s) (huts_of t) i (refused_of act) turned kept had
beside_told s t i act (Err (Failed f)) never kept (k, follows) = absurd (never _ follows)

-- as many huts, each at its place, are the same huts
hut_there : (qs : List Hut) (j : ℕ) → j < length qs → get_or (map (λ q. (state_by q).hut) qs) j 0 ≡ hut_at qs j
hut_there qs j within =
    let q = some_hut qs j within in
    get_or-map (λ p. (state_by p).hut) qs j q 0 within ∙ sym (ap (λ (s : State). s.hut) (get_or-map (λ p. state_by p) qs j q (fresh 0) within))

pub same_placing : (qs ps : List Hut) (i : ℕ) → length ps ≡ length qs → SameHuts qs ps → placing ps i ≡ placing qs i
same_placing qs ps i many same =
    let long = length-map ps (λ (q : Hut). (state_by q).hut) in
    let was = length-map qs (λ (q : Hut). (state_by q).hut) in
    ap (λ (hs : List ℕ). (i, hs))
    (ext_get_or 0 (map (λ q. (state_by q).hut) ps) (map (λ q. (state_by q).hut) qs) (omega (arith, many, long, was))
    (λ j within. hut_there ps j (omega (arith, within, long)) ∙ same j ∙ sym (hut_there qs j (omega (arith, within, long, many)))))
