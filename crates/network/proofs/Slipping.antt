-- What a slip covers stays known where it is served, and stands before what is made there.
use Rattle.std.proofs.Common.{◌≡◌, ℕ, ◌<◌, true, ltb, List, [], ◌∷◌, length, None, Option, sym, refl, subst, inl, inr, arith, lt→ltb}
use mathlib.Core.List.Memᴰ
use Rattle.std.proofs.lemmas.Bool.{eq-eqb}
use Rattle.bookings.specs.Plain.{PlainEntry, PlainKind}
use Rattle.entry_log.proofs.Stamps.{vector_at}
use Rattle.entry_log.specs.Vectors.{covers, joined_with, vector_of}
use Rattle.journal.specs.History.{PlainRecord, Tentative, history_of, makes, state_in, synced, unless, wrote}
use Rattle.replica.specs.Model.{entry_made, make_refusal}
use Rattle.network.specs.Net.{Event, Makes, Net, Syncs, after, huts, run, step, with_hut}
use Rattle.network.specs.Promise.{Always}
use Rattle.network.specs.Replicas.{entries_of}
use Rattle.network.specs.Slips.{BehindCovered, Covered, CoveredStays, ServedStays, ServesAgain}
use Rattle.network.proofs.Holds.{Holds, durables, histories, huts_of}
use Rattle.network.proofs.Knowing.{Huts, behind, known_here, known_then, made-own, made_order}
use Rattle.network.proofs.Marks.{◌∈◌}
use Rattle.network.proofs.Numbers.{covers_all, covers_at, highest_more, highest_one, joined_at}
use Rattle.network.proofs.Parts.{Older, older_self, older_trans}
use Rattle.network.proofs.Safety.{after_holds, lasts}
use Rattle.network.proofs.Steps.{run_becomes, step_becomes}
use Rattle.network.proofs.Tests.{cond_yes}
use Rattle.network.proofs.Valid.{Made, log_older}

-- what a vector covers, whoever covers it knew at that time
module _ (H : Huts) where
  open H use {hist, dur, every, valid, part}

  covered_known :
      (j : ℕ) (rs : List PlainRecord) → Older rs (hist j) → (v : List ℕ) → covers (vector_of (entries_of rs)) v ≡ true → (k : PlainEntry) (o : List PlainRecord)
      → Made hist k o → Covered v k → k ∈ entries_of rs
  covered_known j rs at v t k o m l =
      let own = made-own H k o m in
      let c = covers_at (vector_of (entries_of rs)) v t k.mark.hut own.hut in
      let f = highest_one (entries_of rs) k.mark.hut k.mark.stamp own.some (omega (arith, l, c, vector_at (entries_of rs) k.mark.hut own.hut)) in
      let w = known_then H j rs at f.0 f.1 in
      elim (made_order H k f.0 o w.0 m w.1 (sym f.2)) [
        | inl r ↦ Memᴰ.cast r.0 f.1
        | inr (inl r) ↦ w.2 k r
        | inr (inr r) ↦ let t = own.above f.0 r in absurd (omega (arith, f.3, t))
      ]

-- what a hut has written is durable when it has synced
pub sync_durable : (n : Net) (i : ℕ) → i < huts → Older (histories n i) (durables (step (Syncs i) n) i)
sync_durable n i low =
    subst (λ (m : Net). Older (histories n i) (durables m i)) (sym (cond_yes (ltb i huts) (with_hut i (synced (n.hut i)) n) n (lt→ltb i huts low)))
    (rw (eq-eqb i i refl, durables) (older_self (histories n i)))

pub covered_stays : Always CoveredStays
covered_stays es i slip low t later j k d covered =
    let n = after es in
    let m = step (Syncs i) n in
    let b = step_becomes (Syncs i) n (after_holds es) in
    let r = (run_becomes later m b.holds).2 in
    let H = huts_of (run later m) r.holds in
    let at = lasts m b.holds later i (histories n i) (sync_durable n i low) in
    let w = known_here H j k d in
    log_older H.every H.dur i (histories n i) (H.hist i) at (H.valid i) k (covered_known H i (histories n i) at slip t k w.0 w.1 covered)

-- a hut serves ever after with what durable records of its own cover
pub served_from :
    {every : List PlainEntry} (m : Net) → Holds every m → (i : ℕ) (rs : List PlainRecord) → Older rs (durables m i) → (slip : List ℕ)
    → covers (vector_of (entries_of rs)) slip ≡ true → (later : List Event) → covers (vector_of (entries_of (histories (run later m) i))) slip ≡ true
served_from m I i rs durable slip t later =
    let r = (run_becomes later m I).2 in
    let H = huts_of (run later m) r.holds in
    let more = log_older H.every H.dur i rs (H.hist i) (lasts m I later i rs durable) (H.valid i) in
    covers_all (vector_of (entries_of (H.hist i))) slip
    (λ h lt.
    omega (
      arith,
      covers_at (vector_of (entries_of rs)) slip t h lt,
      vector_at (entries_of rs) h lt,
      vector_at (entries_of (H.hist i)) h lt,
      highest_more (entries_of rs) (entries_of (H.hist i)) h more,
    ))

pub served_stays : Always ServedStays
served_stays es i slip low t later =
    served_from (step (Syncs i) (after es)) (step_becomes (Syncs i) (after es) (after_holds es)).holds i (histories (after es) i) (sync_durable (after es) i low) slip t later

-- so does the slip that is answered
answered : (v slip : List ℕ) → length slip ≡ huts → covers v slip ≡ true → covers v (joined_with slip v) ≡ true
answered v slip long t = covers_all v (joined_with slip v) (λ h lt. omega (arith, joined_at slip v h long lt, covers_at v slip t h lt))

pub serves_again : Always ServesAgain
serves_again es i slip low long t later =
    let v = vector_of (entries_of (histories (after es) i)) in served_stays es i (joined_with slip v) low (answered v slip long t) later

-- the hut's history has the entry, just behind what it knew
pub made_there :
    (n : Net) (i : ℕ) (kind : PlainKind) → i < huts → make_refusal kind (state_in (n.hut i)) ≡ None
    → Older (Tentative (entry_made kind (state_in (n.hut i))) ∷ histories n i) (histories (step (Makes i kind) n) i)
made_there n i kind low free =
    subst (λ (m : Net). Older (Tentative e ∷ histories n i) (histories m i)) (sym (cond_yes (ltb i huts) (with_hut i (makes kind (n.hut i)) n) n (lt→ltb i huts low)))
    (rw (eq-eqb i i refl, histories)
    (subst (λ (o : Option ℕ). Older (Tentative e ∷ histories n i) (history_of (unless o (n.hut i) (wrote (Tentative e) (n.hut i))))) (sym free)
    (older_self (Tentative e ∷ histories n i))))
  where
    e : PlainEntry
    e = entry_made kind (state_in (n.hut i))

pub behind_covered : Always BehindCovered
behind_covered es i kind slip low t free later j h front back q k d covered =
    let n = after es in
    let e = entry_made kind (state_in (n.hut i)) in
    let one = step (Makes i kind) n in
    let m = step (Syncs i) one in
    let a = step_becomes (Makes i kind) n (after_holds es) in
    let b = step_becomes (Syncs i) one a.holds in
    let r = (run_becomes later m b.holds).2 in
    let H = huts_of (run later m) r.holds in
    let written = older_trans (Tentative e ∷ histories n i) (histories one i) (durables m i) (made_there n i kind low free) (sync_durable one i low) in
    let at = lasts m b.holds later i (Tentative e ∷ histories n i) written in
    let made : Made H.hist e (histories n i) = subst (λ (x : ℕ). Older (Tentative e ∷ histories n i) (H.hist x)) (sym ((after_holds es).own i)) at in
    let before = older_trans (histories n i) (Tentative e ∷ histories n i) (H.hist i) (Tentative e ∷ [], refl) at in
    let w = known_here H h k d in
    behind H j e front back (histories n i) q made k (covered_known H i (histories n i) before slip t k w.0 w.1 covered)
