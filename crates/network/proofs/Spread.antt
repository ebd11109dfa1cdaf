-- Each hut takes letters from one that has all committed, until it has all committed, and then has nothing tentative left.
use Rattle.std.proofs.Common.{◌≡◌, ℕ, ◌<◌, List, [], sym, refl, ap, ◌∙◌, subst, arith}
use Rattle.network.specs.Net.{Event, huts}
use Rattle.network.specs.Replicas.{committed_of, tentative_of}
use Rattle.network.proofs.Gather.{Front}
use Rattle.network.proofs.Handing.{hand_back}
use Rattle.network.proofs.Safety.{hist}
use Rattle.network.proofs.Tests.{Apart, apart_turned, by_same}
use Rattle.network.proofs.Walk.{Roomy, WalkTo, each_hut, stay, walk-map}

-- a hut has all committed, as hut p has it
abbrev pub Agreed : ℕ → List Event → ℕ → Type 0
Agreed p es i = (tentative_of (hist es i) ≡ []) × (committed_of (hist es i) ≡ committed_of (hist es p))

-- hut p has all committed, is in front, and is as it was
abbrev pub Stands : ℕ → List Event → List Event → Type 0
Stands p es on = (hist on p ≡ hist es p) × (tentative_of (hist on p) ≡ []) × Front p on

-- one hut more agrees
finish_hut :
    (p : ℕ) (es on : List Event) → Roomy on → Stands p es on → (c : ℕ) → c < huts
    → WalkTo on (λ end. Stands p es end × Agreed p end c × ((i : ℕ) → Apart i c → Agreed p on i → Agreed p end i))
finish_hut p es on few s c lt =
    by_same c p (λ q. stay (s, subst (Agreed p on) (sym q) (s.1, refl), λ i a h. h))
    (λ apart. walk-map (hand_back p c on few s.2 lt apart) (λ end h.
    let same : hist end p ≡ hist on p = h.0 p (apart_turned c p apart) in (
      (same ∙ s.0, ap tentative_of same ∙ s.1, h.1),
      (h.3 ∙ s.1, h.2 ∙ ap committed_of (sym same)),
      λ i a g. (ap tentative_of (h.0 i a) ∙ g.0, ap committed_of (h.0 i a) ∙ g.1 ∙ ap committed_of (sym same)),
    )))

-- all huts come to agree with hut p, which stays as it is
pub spread : (p : ℕ) (es : List Event) → Roomy es → Front p es → tentative_of (hist es p) ≡ [] → WalkTo es (λ on. Stands p es on × ((i : ℕ) → i < huts → Agreed p on i))
spread p es few f none = each_hut (Stands p es) (Agreed p) (finish_hut p es) huts (omega arith) es few (refl, none, f)
