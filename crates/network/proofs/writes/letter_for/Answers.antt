use Rattle.std.proofs.Common.{◌≡◌, ◌≤◌, false, is_ok, length, refl, rules, sym, ap, ◌∙◌, subst, arith, length-append, Result, Ok, Err, MatchResult}
use Rattle.bookings.specs.declared.book.TheConstants.{CAPACITY}
use Rattle.entry_log.specs.declared.waiting.TheConstants.{MAX_LETTER_ENTRIES}
use lib.ListN.{length-map}
use Rattle.std.proofs.lemmas.Option.{MatchOption-at_some}
use Rattle.std.specs.Result.{IsErrAnd, OnOk}
use Rattle.std.proofs.lemmas.Bool.{false≢true}
use Rattle.bookings.specs.Plain.{plain}
use Rattle.entry_log.specs.Waits.{plain_waiting}
use Rattle.letters.specs.Buffers.{Written}
use Rattle.letters.specs.Laws.{LetterOk}
use Rattle.letters.specs.Letters.{PlainLetter, encode_letter}
use Rattle.letters.specs.Sent.{many, letter_of}
use Rattle.replica.proofs.Orders.{parcel_is_small_lem}
use Rattle.replica.proofs.Taking.{log_few}
use Rattle.replica.specs.Model.{State}
use Rattle.replica.specs.Parcels.{PlainParcel, parcel_for}
use Rattle.replica.specs.Views.{state_of}
use Rattle.network.specs.Taking.{letter_for}
use Rattle.network.specs.declared.unsent.Unsent.{Unsent}
use Rattle.network.specs.declared.unsent.Unsent.TheVariants.{NoRoom}
use Rattle.network.proofs.Lettered.{letter_is}
use Rattle.network.proofs.writes.letter_for.Given.{Over}
use Rattle.network.proofs.writes.letter_for.Goals as goal
use Rattle.network.proofs.writes.letter_for.Goals.{After-write_letter}

-- the answer is that of the writing, whose error can only be that there is no room
module _ {E : Type 0} (N : Type 0) (P : Unsent → Type 0) (post : E → Unsent → Type 0) (means : (e : E) (u : Unsent) → post e u → u ≡ NoRoom) where
  answered : (r : Result (Unit {0}) E) (s : Result (Unit {0}) Unsent) → MatchResult r (λ x. s ≡ Ok x) (λ e. IsErrAnd s (post e)) → MatchResult r (λ _. N) (λ _. P NoRoom) → MatchResult s (λ _. N) P
  answered (Ok x) s is holds = subst (λ t. MatchResult t (λ _. N) P) (sym is) holds
  answered (Err e) (Ok y) is holds = absurd is
  answered (Err e) (Err u) is holds = subst P (sym (means e u is)) holds

-- what holds where it was written, and what follows where it was not
by_case : {E : Type 0} (N M : Type 0) (r : Result (Unit {0}) E) → N → (is_ok r ≡ false → M) → MatchResult r (λ _. N) (λ _. M)
by_case N M (Ok x) holds fails = holds
by_case N M (Err e) holds fails = fails refl

-- what holds where it was written holds where the answer says so
lawful_too : {E F : Type 0} (P : Type 0) (r : Result (Unit {0}) E) (s : Result (Unit {0}) F) → is_ok s ≡ is_ok r → OnOk r P → OnOk s P
lawful_too P (Ok x) (Ok y) same holds = holds
lawful_too P (Ok x) (Err e) same holds = tt
lawful_too P (Err e) (Ok y) same holds = absurd (false≢true (sym same))
lawful_too P (Err e) (Err f) same holds = tt

module _ (g : Over) (c : After-write_letter g) where
  abbrev was : State
  was = state_of c.args.keeper.now.replica

  packed : ◌≡◌ {A = PlainParcel} (parcel_for c.args.has.now.committed c.args.has.now.vector.stamps (state_of c.in_ok-replica.replica.now)) (parcel_for c.args.has.now.committed c.args.has.now.vector.stamps was)
  packed = ap (parcel_for c.args.has.now.committed c.args.has.now.vector.stamps) (ap state_of ((MatchOption-at_some _ _ _ c.in_ok-replica.ensures.ok_part c.shown.ensures).0 ∙ c.in_ok-sync.ensures.replica))

  few : length was.log.committed ≤ CAPACITY
  few = omega (arith, log_few c.args.keeper.now.replica.log, length-append was.log.committed was.log.tentative)

  letter : letter_of c.place_from-place.result c.committed.result.now c.tentative.result.now ≡ letter_for c.args.has.now.committed c.args.has.now.vector.stamps was
  letter =
      letter_is c.args.has.now.committed c.args.has.now.vector.stamps was c.committed.result.now c.tentative.result.now c.place_from-place.result few c.place_from-place.ensures
      (c.committed.ensures ∙ ap (λ (p : PlainParcel). p.committed) (c.hand_on.ensures ∙ packed))
      (c.tentative.ensures ∙ ap (λ (p : PlainParcel). p.tentative) (c.hand_on.ensures ∙ packed))

  -- a parcel has few enough entries for a letter
  fits : many c.committed.result.now c.tentative.result.now ≤ MAX_LETTER_ENTRIES
  fits =
      let small = parcel_is_small_lem c.args.has.now.committed c.args.has.now.vector.stamps was in
      let committed = sym (length-map c.committed.result.now plain) ∙ ap (λ (l : PlainLetter). length l.committed) letter in
      let tentative = sym (length-map c.tentative.result.now plain_waiting) ∙ ap (λ (l : PlainLetter). length l.tentative) letter in
      omega (arith, small, committed, tentative)

pub returns-clause-written : goal.returns-clause-written
returns-clause-written g c =
    let at = (goal.at.returns-clause-written g c).After-write_letter in
    answered _ _ _ (λ e u h. search rules) c.write_letter.result c.map_err.result c.map_err.ensures.cases
    (subst (λ (l : PlainLetter). MatchResult c.write_letter.result (λ _. Written c.args.out.now c.write_letter.new.out (encode_letter l)) (λ _. c.write_letter.new.out ≡ c.args.out.now)) (letter g at) c.write_letter.ensures.written)

pub returns-clause-lawful : goal.returns-clause-lawful
returns-clause-lawful g c =
    let at = (goal.at.returns-clause-lawful g c).After-write_letter in
    lawful_too _ c.write_letter.result c.map_err.result c.map_err.ensures.variant (subst (λ (l : PlainLetter). OnOk c.write_letter.result (LetterOk l)) (letter g at) c.write_letter.ensures.lawful)

pub returns-clause-kept : goal.returns-clause-kept
returns-clause-kept g c =
    let at = (goal.at.returns-clause-kept g c).After-write_letter in
    answered _ _ _ (λ e u h. search rules) c.write_letter.result c.map_err.result c.map_err.ensures.cases
    (by_case _ _ c.write_letter.result c.in_ok-sync.ensures.kept (λ failed room. false≢true (sym failed ∙ c.write_letter.ensures.enough room (fits g at))))

pub returns-clause-sure : goal.returns-clause-sure
returns-clause-sure g c = λ k in_step roomy room.
    let at = (goal.at.returns-clause-sure g c).After-write_letter in
    c.map_err.ensures.variant ∙ c.write_letter.ensures.enough room (fits g at)
