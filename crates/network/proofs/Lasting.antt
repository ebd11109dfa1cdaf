-- What was ever synced, handed on or shown is known to some hut.
use Rattle.std.proofs.Common.{List, sym, ap, ◌∙◌, subst}
use mathlib.Core.List.Memᴰ
use mathlib.Core.List.{Memᴰ}
use Rattle.bookings.specs.Plain.{PlainEntry}
use Rattle.letters.specs.Items.{PlainItem, settled, waiting}
use Rattle.network.specs.Items.{entry_in}
use Rattle.network.specs.Lasting.{LastingKnown, Somewhere, handed_on, known_now, seen_by, synced_once}
use Rattle.network.specs.Net.{Net, after, start}
use Rattle.network.specs.Promise.{Always}
use Rattle.network.specs.Replicas.{entries_in, tentative_of}
use Rattle.network.proofs.Growth.{made_grows}
use Rattle.network.proofs.Holds.{Holds, Said, durables, histories, huts_of}
use Rattle.network.proofs.Knowing.{maker_knows}
use Rattle.network.proofs.Lists.{stands}
use Rattle.network.proofs.Parts.{committed_older}
use Rattle.network.proofs.Safety.{after_holds, known_stays}
use Rattle.network.proofs.Walk.{run-append}

-- a true item's entry is known to a hut
pub said_known : {every : List PlainEntry} (n : Net) → Holds every n → (w : PlainItem)
    → Said (durables n) w → Somewhere n (entry_in w)
said_known n I (waiting w) s = (
  w.entry.mark.hut,
  maker_knows (huts_of n I) w.entry s.0
      (made_grows (durables n) (histories n) (huts_of n I).part w.entry s.0 s.1),
)
said_known n I (settled p e) s =
    let first = committed_older (durables n s.0) (histories n s.0) ((huts_of n I).part s.0) in
    let there = subst (λ (l : List PlainEntry). Memᴰ e l) (sym s.1.2) (stands e s.1.0 s.1.1) in (
      s.0,
      Memᴰ.append_left (tentative_of (histories n s.0))
          (subst (λ (l : List PlainEntry). Memᴰ e l) (sym first.1) (Memᴰ.append_left first.0 there)),
    )

pub lasting_known : Always LastingKnown
lasting_known es k (known_now s) = s
lasting_known es k (synced_once before since i q d) =
    let is = ap after q ∙ run-append before since start in (
      i,
      subst (λ (n : Net). Memᴰ k (entries_in (n.hut i))) (sym is)
          (known_stays before since i k d),
    )
lasting_known es k (handed_on l w m d q) =
    subst (Somewhere (after es)) q (said_known (after es) (after_holds es) w
    ((after_holds es).said l m w d))
lasting_known es k (seen_by g m) =
    let H = huts_of (after es) (after_holds es) in
    let l = ((after_holds es).guests g).lasts k m in
    (k.mark.hut, maker_knows H k l.0 (made_grows H.dur H.hist H.part k l.0 l.1))
