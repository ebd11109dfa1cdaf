use Rattle.std.proofs.Common.{◌≡◌, true, eqb, length, rules}
use Rattle.std.proofs.lemmas.Bool.{eqb-true}
use Rattle.letters.specs.Format.{reads}
use Rattle.letters.specs.Letters.{read_waiting}
use Rattle.letters.specs.Items.{unread}
use Rattle.letters.proofs.Looking.{looked_on}
use Rattle.letters.proofs.letter.Letter.look_on.Goals.{else-out-eq0-via-then-out-eq0+else-rest-gt0, else-out-eq0-via-else-out-eq0}
use Rattle.letters.proofs.letter.Letter.look_on.Goals as goal

pub returns : goal.returns
returns c =
    let l = c.args.self in
    let t = c.look.new.reader.rest.now in
    let tentative = c.in_ok-tentative.tentative in
    let out = c.in_ok-tentative.out in
    let behind : eqb out 0 ≡ true → length t ≡ 0 =
    elim c.else-out-eq0.branch [
      | else-out-eq0-via-then-out-eq0+else-rest-gt0 w ↦ λ e. search rules
      | else-out-eq0-via-else-out-eq0 w ↦ λ e. absurd (w.if-out-eq0.false (eqb-true out 0 e))
    ] in
    looked_on c.args.reader.rest.now c.two.new.self.rest.now t l.committed.count l.place
    c.in_ok-count.count
    out
    (unread reads l.committed)
    (unread read_waiting tentative)
    (search rules)
    (search rules)
    c.in_ok-tentative.ensures.ends
    c.in_ok-tentative.ensures.values
    behind
