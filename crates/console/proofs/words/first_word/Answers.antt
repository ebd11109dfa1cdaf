use Rattle.std.proofs.Common.{◌<◌, ◌≤◌, length, arith, length-drop, length-take, rules}
use Rattle.std.proofs.lemmas.List.{take_rest}
use Rattle.console.proofs.WordBounds.{no_word, first_of_line}
use Rattle.console.proofs.words.first_word.Goals as goal

pub returns-then-is_empty : goal.returns-then-is_empty
returns-then-is_empty c = search (rules, no_word)

pub returns : goal.returns
returns c =
    let some : 0 < length c.skip_spaces-text.result.now = search rules in
    let first =
    first_of_line c.args.text.now c.skip_spaces-text.result.now c.word_end-end.result c.skip_spaces-text.ensures some
    c.word_end-end.ensures.value
    in
    let shorter : length c.skip_spaces-text.result.now ≤ length c.args.text.now =
    rw (c.skip_spaces-text.ensures, length-drop) (omega arith)
    in
    simp take_rest (first.0, simp length-take (omega arith), simp length-drop (omega arith))
