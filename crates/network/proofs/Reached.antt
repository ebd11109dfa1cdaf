-- Whatever is played, some events lead there, and no journal fails.
use Rattle.std.proofs.Common.{◌≡◌, ◌<◌, ◌||◌, ◌⊎◌, ◌++◌, ℕ, Bool, true, false, not, List, [], get_or, length, Option, None, Some, Result, Ok, Err, MatchOption, MatchResult, ⊎_elim, inl, inr, refl, sym, ap, subst, ◌∙◌}
use Rattle.std.specs.Option.{is_some}
use Rattle.std.proofs.lemmas.Bool.{false≢true}
use denote.Struct.Props.{props}
use mathlib.Core.Logic.{∥∥₁_elim, ∥∥₁_map}
use Rattle.bookings.specs.declared.refusal.Refusal.{Refusal}
use Rattle.journal.specs.History.{Kept}
use Rattle.letters.specs.Letters.{Heard, damaged, heard, read_letter}
use Rattle.network.specs.Net.{Event}
use Rattle.network.specs.Reached.{Followed, Reached, Promises}
use Rattle.network.specs.Stages.{Follows, Never, Turns, Unwritten, bytes_sent, huts_of, SameHuts}
use Rattle.network.specs.Taking.{take_bytes, told_out}
use Rattle.network.specs.Stands.{Forged, Stands, Went}
use Rattle.network.specs.Stands.{Heard as SoHeard}
use Rattle.network.specs.declared.act.Act.{Act}
use Rattle.network.specs.declared.act.Done.{Done}
use Rattle.network.specs.declared.stage.Stage.{Stage}
use Rattle.network.specs.declared.unplayed.Unplayed.{Unplayed}
use Rattle.network.specs.declared.unplayed.Unplayed.TheVariants.{Memory, Refused, Failed}
use Rattle.network.proofs.Promises.{promised}
use Rattle.network.proofs.Stands.{heard_nothing, took}

-- THEOREM: all laws of the network hold of what was reached
pub reached_promises : (s : Stage) → Reached s → Promises s
reached_promises s reached = ∥∥₁_map reached (λ w. (w.0, w.1, promised w.0))

-- at first nothing has happened
pub begun_followed : (s : Stage) → Stands s [] → Followed s
begun_followed s stands = ∣ (_, stands.follows) ∣₁

pub begun_reached : (s : Stage) → Stands s [] → Reached s
begun_reached s stands = ∣ ([], stands) ∣₁

pub went_reached :
    (s t : Stage) (i : ℕ) (act : Act) (r : Result Done Unplayed) → ((es : List Event) → Stands s es → Went s t i act r es) → Reached s → Reached t
went_reached s t i act r went reached = ∥∥₁_map reached (λ w. let on = went w.0 w.1 in (w.0 ++ on.0, on.1))

pub went_followed :
    (s t : Stage) → ((kept : ℕ → Kept) → Follows (huts_of s) kept → (now : ℕ → Kept) × Follows (huts_of t) now) → Followed s → Followed t
went_followed s t on followed = ∥∥₁_map followed (λ w. on w.0 w.1)

-- no replica has another place
pub went_huts :
    (s t : Stage) → ((kept : ℕ → Kept) → Follows (huts_of s) kept → SameHuts (huts_of s) (huts_of t)) → Followed s → SameHuts (huts_of s) (huts_of t)
went_huts s t on followed j = ∥∥₁_elim followed (hlevel props) (λ w. on w.0 w.1 j)

-- what a report says of whether there was a letter
told_none : (h : Heard) → not (is_some (told_out h)) ≡ true → h ≡ damaged
told_none damaged none = refl
told_none (heard place cs ws out) none = absurd (false≢true none)

none_told : (h : Heard) → h ≡ damaged → not (is_some (told_out h)) ≡ true
none_told h none = ap (λ x. not (is_some (told_out x))) none

some_told : (h : Heard) → (h ≡ damaged → ⊥) → not (is_some (told_out h)) ≡ false
some_told damaged none = absurd (none refl)
some_told (heard place cs ws out) none = refl

-- a letter is not forged where one of the huts wrote it, or where it is none
unforged : (forged written is_none : Bool) → (forged || not (written || is_none)) ≡ false → (forged ≡ false) × ((written ≡ true) ⊎ (is_none ≡ true))
unforged false true is_none honest = (refl, inl refl)
unforged false false true honest = (refl, inr refl)
unforged false false false honest = absurd (false≢true (sym honest))
unforged true written is_none honest = absurd (false≢true (sym honest))

module _ (s t : Stage) (i : ℕ) (bs : List ℕ) (found rejected : Option ℕ) (forged written is_none : Bool) (written-is : written ≡ is_some found)
    (none-is : is_none ≡ not (is_some rejected)) (report : (kept : ℕ → Kept) → Follows (huts_of s) kept → rejected ≡ told_out (read_letter bs)) (followed : Followed s) where
  told : is_none ≡ not (is_some (told_out (read_letter bs)))
  told = none-is ∙ ap (λ r. not (is_some r)) (∥∥₁_elim followed (hlevel props) (λ w. report w.0 w.1))

  pub stays_honest : forged ≡ false → read_letter bs ≡ damaged → (forged || not (written || is_none)) ≡ false
  stays_honest honest none = rw (honest, told ∙ none_told (read_letter bs) none) (either written)
    where
      either : (b : Bool) → (false || not (b || true)) ≡ false
      either true = refl
      either false = refl

  pub stays_written :
      MatchOption found (Unwritten (bytes_sent s) bs) (λ l. (l < length (bytes_sent s)) × (get_or (bytes_sent s) l [] ≡ bs)) → forged ≡ false
      → (Unwritten (bytes_sent s) bs → ⊥) → (forged || not (written || is_none)) ≡ false
  stays_written where-found honest known = rw (honest, written-is ∙ found_some found where-found) refl
    where
      found_some : (r : Option ℕ) → MatchOption r (Unwritten (bytes_sent s) bs) (λ l. (l < length (bytes_sent s)) × (get_or (bytes_sent s) l [] ≡ bs)) → is_some r ≡ true
      found_some None none = absurd (known none)
      found_some (Some l) there = refl

  pub made_forged :
      MatchOption found (Unwritten (bytes_sent s) bs) (λ l. (l < length (bytes_sent s)) × (get_or (bytes_sent s) l [] ≡ bs)) → (forged ≡ true) ⊎ Forged (bytes_sent s) bs
      → (forged || not (written || is_none)) ≡ true
  made_forged where-found (inl already) = rw already refl
  made_forged where-found (inr new) = rw (written-is ∙ found_none found where-found, told ∙ some_told (read_letter bs) new.1) (either forged)
    where
      found_none : (r : Option ℕ) → MatchOption r (Unwritten (bytes_sent s) bs) (λ l. (l < length (bytes_sent s)) × (get_or (bytes_sent s) l [] ≡ bs)) → is_some r ≡ false
      found_none None none = refl
      found_none (Some l) there = absurd (new.0 l there.0 there.1)

      either : (b : Bool) → (b || true) ≡ true
      either true = refl
      either false = refl

  pub heard_reached :
      i < length (huts_of s) → bytes_sent t ≡ bytes_sent s → Turns (huts_of s) (huts_of t) i (take_bytes bs)
      → MatchOption found (Unwritten (bytes_sent s) bs) (λ l. (l < length (bytes_sent s)) × (get_or (bytes_sent s) l [] ≡ bs))
      → (forged ≡ false → Reached s) → (forged || not (written || is_none)) ≡ false → Reached t
  heard_reached within letters turns where-found reached honest =
      let why = unforged forged written is_none honest in
      ∥∥₁_map (reached why.0) (λ w. ⊎_elim (λ known. of_letter found where-found (sym written-is ∙ known) w.0 w.1)
      (λ none. (_, heard_nothing s t i within w.0 w.1 bs letters (told_none (read_letter bs) (sym told ∙ none)) turns)) why.1)
    where
      of_letter :
          (r : Option ℕ) → MatchOption r (Unwritten (bytes_sent s) bs) (λ l. (l < length (bytes_sent s)) × (get_or (bytes_sent s) l [] ≡ bs)) → is_some r ≡ true
          → (es : List Event) → Stands s es → (now : List Event) × Stands t now
      of_letter None there known es stands = absurd (false≢true known)
      of_letter (Some l) there known es stands =
          (_, took s t i within es stands l letters there.0 (subst (λ (x : List ℕ). Turns (huts_of s) (huts_of t) i (take_bytes x)) (sym there.1) turns))

-- what has come of those bytes
pub heard_so :
    (s t : Stage) (i : ℕ) (bs : List ℕ) → i < length (huts_of s) → bytes_sent t ≡ bytes_sent s → Turns (huts_of s) (huts_of t) i (take_bytes bs)
    → (es : List Event) → Stands s es → SoHeard s t i bs es
heard_so s t i bs within letters turns es stands = (
  λ nth there same. took s t i within es stands nth letters there (subst (λ (x : List ℕ). Turns (huts_of s) (huts_of t) i (take_bytes x)) (sym same) turns),
  λ none. heard_nothing s t i within es stands bs letters none turns,
)

pub never_fails : (s : Stage) → Followed s → Never (huts_of s) → ⊥
never_fails s followed never = ∥∥₁_elim followed (hlevel props) (λ w. never w.0 w.1)

pub unfailing :
    {X : Type 0} (s : Stage) (P : X → Type 0) (M : Type 0) (D : Refusal → Type 0) (r : Result X Unplayed) → Followed s
    → MatchResult r P (λ e. elim e [ Memory ↦ M | Refused w ↦ D w | Failed f ↦ Never (huts_of s) ]) → MatchResult r P (λ e. elim e [ Memory ↦ M | Refused w ↦ D w | Failed f ↦ ⊥ ])
unfailing s P M D (Ok d) followed told = told
unfailing s P M D (Err Memory) followed told = told
unfailing s P M D (Err (Refused w)) followed told = told
unfailing s P M D (Err (Failed f)) followed never = never_fails s followed never
