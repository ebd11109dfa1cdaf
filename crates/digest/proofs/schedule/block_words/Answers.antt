use Rattle.std.proofs.Common.{◌≡◌, ◌/◌, ◌<◌, length, refl, ◌∙◌, arith}
use Rattle.digest.specs.Sha256.{words}
use Rattle.digest.proofs.Schedules.{chunk_word, word_stored}
use Rattle.digest.proofs.schedule.block_words.Goals as goal

pub loop-t-init : goal.loop-t-init
unfolding words
loop-t-init c = refl

pub loop-t-preserved : goal.loop-t-preserved
loop-t-preserved c =
    let block = c.args.block.now in
    let t = c.loop-t.t in
    let h : t < 16 = omega arith in
    let in-chunks : t < length block / 4 = omega arith in
    rw c.loop-t.invariant (word_stored block t _ h (c.from_be_bytes.ensures ∙ rw c.as_chunks.ensures.front (chunk_word block (length block / 4) t _ in-chunks)))

pub returns : goal.returns
returns c =
    let last : c.loop-t.t ≡ 16 = omega arith in
    rw last at c.loop-t.invariant
