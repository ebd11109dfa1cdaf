-- The laws of a replica's log.
use Rattle.std.proofs.Common.{◌≡◌, ℕ, zero, suc, ◌-◌, true, List, [], ◌∷◌, ◌++◌, length, take, drop, Some, sym, refl, ap, ◌∙◌, arith, length-take}
use Rattle.std.proofs.lemmas.List.{take-append-drop, take_all, append_assoc}
use Rattle.std.proofs.lemmas.Bool.{and_parts}
use Rattle.bookings.specs.Plain.{PlainEntry}
use Rattle.entry_log.proofs.Marks.{behind_at}
use Rattle.entry_log.proofs.Putting.{without_none, none_has, times-append, one_more, same_self}
use Rattle.entry_log.specs.Logs.{PlainLog, all_of, without, first_entry, commit_first_of, add_committed}
use Rattle.entry_log.specs.Order.{all_behind, ascends, times, Once}
use Rattle.entry_log.specs.declared.waiting.TheConstants.{MAX_LETTER_ENTRIES}
use Rattle.replica.proofs.Making.{made_last}
use Rattle.replica.specs.Laws.{Sorted, MadeStandsLast, CommitKeepsOrder, ParcelIsSmall, ParcelHasNoGap}
use Rattle.replica.specs.Model.{entry_made}
use Rattle.replica.specs.Parcels.{missing, parcel_of}

pub ascends-sorted : (es : List PlainEntry) → ascends es ≡ true → Sorted es
ascends-sorted [] sorted i j d order within = absurd (omega arith)
ascends-sorted (e ∷ es) sorted zero zero d order within = absurd (omega arith)
ascends-sorted (e ∷ es) sorted zero (suc j) d order within = behind_at e.mark es j d (and_parts (all_behind e.mark es) (ascends es) sorted).0 (omega arith)
ascends-sorted (e ∷ es) sorted (suc i) zero d order within = absurd (omega arith)
ascends-sorted (e ∷ es) sorted (suc i) (suc j) d order within = ascends-sorted es (and_parts (all_behind e.mark es) (ascends es) sorted).1 i j d (omega arith) (omega arith)

pub made_stands_last_lem : MadeStandsLast
made_stands_last_lem k s = made_last (entry_made k s) s.log (omega arith)

-- the first tentative entry, added as committed, stands where it stood
first_stays : (l : PlainLog) (ts : List PlainEntry) (e : PlainEntry) → l.tentative ≡ ts → first_entry ts ≡ Some e → Once (all_of l) → all_of (add_committed e l) ≡ all_of l
first_stays l [] e is first once = absurd (let z : ◌≡◌ {A = ℕ} 0 1 = cc in omega arith)
first_stays l (f ∷ fs) e is first once =
    let same : f ≡ e = cc in
    let mine = ap (λ x. times e.mark (x ∷ fs)) same in
    let few : times e.mark fs ≡ 0 = omega (arith, once e.mark, times-append e.mark l.committed l.tentative, ap (times e.mark) is, one_more e.mark e.mark (same_self e.mark)) in
    let gone : without e.mark (e ∷ fs) ≡ fs = rw (same_self e.mark) (without_none e.mark fs (none_has e.mark fs few)) in
    ap (λ t. (l.committed ++ e ∷ []) ++ without e.mark t) (is ∙ ap (λ x. x ∷ fs) same) ∙ ap (λ t. (l.committed ++ e ∷ []) ++ t) gone
    ∙ append_assoc l.committed (e ∷ []) fs ∙ sym (ap (λ t. l.committed ++ t) (is ∙ ap (λ x. x ∷ fs) same))

commit_stays : (l : PlainLog) (ts : List PlainEntry) → l.tentative ≡ ts → Once (all_of l) → all_of (commit_first_of ts l) ≡ all_of l
commit_stays l [] is once = refl
commit_stays l (f ∷ fs) is once = first_stays l (f ∷ fs) f is refl once

pub commit_keeps_order_lem : CommitKeepsOrder
commit_keeps_order_lem s once = (commit_stays s.log s.log.tentative refl once, λ e first. first_stays s.log s.log.tentative e refl first once)

pub parcel_is_small_lem : ParcelIsSmall
unfolding parcel_of
parcel_is_small_lem from has s =
    omega (arith, length-take MAX_LETTER_ENTRIES (drop from s.log.committed), length-take (MAX_LETTER_ENTRIES - length (take MAX_LETTER_ENTRIES (drop from s.log.committed))) (missing has s.log.committed s.log.tentative))

pub parcel_has_no_gap_lem : ParcelHasNoGap
unfolding parcel_of
parcel_has_no_gap_lem from has s =
    let cs = drop from s.log.committed in
    let ts = missing has s.log.committed s.log.tentative in
    let room = MAX_LETTER_ENTRIES - length (take MAX_LETTER_ENTRIES cs) in (
      (drop MAX_LETTER_ENTRIES cs, sym (take-append-drop MAX_LETTER_ENTRIES cs)),
      (drop room ts, sym (take-append-drop room ts)),
      λ some. take_all MAX_LETTER_ENTRIES cs (omega (arith, length-take MAX_LETTER_ENTRIES cs, length-take room ts)),
    )
