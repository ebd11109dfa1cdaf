use Rattle.std.proofs.Common.{◌≡◌, ◌+◌, ◌<◌, ◌≤◌, map, length, get_or, take, sym, ap, ◌∙◌, arith}
use lib.ListN.{length-map}
use Rattle.std.proofs.lemmas.List.{take_all, take_rest, get_or-drop}
use Rattle.bookings.specs.Books.{book_of}
use Rattle.bookings.specs.Plain.{plain}
use Rattle.bookings.specs.Views.{book_in}
use Rattle.entry_log.proofs.Views.{entry_there}
use Rattle.replica.proofs.Redoing.{redo_front}
use Rattle.replica.proofs.redo.redo_from.Goals as goal

pub loop-entry-preserved : goal.loop-entry-preserved
loop-entry-preserved c =
    let log = c.args.log.now in
    let k = c.args.place + c.loop-entry.entry-index in
    let entry = c.entry-item.result in
    let there : k < length log = omega arith in
    let at : entry ≡ get_or log k entry =
    c.entry-item.is ∙ ap (λ es. get_or es c.loop-entry.entry-index entry) (take_rest log c.args.place)
    ∙ get_or-drop c.args.place log c.loop-entry.entry-index entry in
    let on : k + 1 ≡ c.args.place + (c.loop-entry.entry-index + 1) = omega arith in
    redo_front c.apply.result (map plain log) k (plain entry) (book_in c.loop-entry.book) (book_in c.apply.new.self) (simp length-map there) (simp length-map c.requires.room) (sym (entry_there log k entry (plain entry) there at))
    c.loop-entry.invariant c.apply.ensures
    ∙ ap (λ n. book_of (take n (map plain log))) on

pub returns : goal.returns
returns c =
    let k = c.args.place + c.loop-entry.entry-index in
    let all : length (map plain c.args.log.now) ≤ k = simp length-map (omega arith) in
    c.loop-entry.invariant ∙ ap book_of (take_all k (map plain c.args.log.now) all)
