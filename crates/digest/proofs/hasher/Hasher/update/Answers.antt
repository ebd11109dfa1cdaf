use Rattle.std.proofs.Common.{arith}
use Rattle.digest.proofs.BlockByBlock.{cut-push, cut_join}
use Rattle.digest.proofs.Parts.{kept, kept_front, filled_up, counted_more}
use Rattle.digest.proofs.hasher.Hasher.update.Goals as goal

pub returns-then-part-room : goal.returns-then-part-room
returns-then-part-room c = λ m fed.
    let h = c.args.self.now in
    let part = c.args.part.now in
    record {
      cut = rw (kept h.block part _ _ h.filled (omega arith) c.laid.ensures) (cut-push part fed.cut);
      counted = counted_more m part _ fed.counted;
    }

pub returns-else-part-room : goal.returns-else-part-room
returns-else-part-room c = λ m fed.
    let h = c.args.self.now in
    let part = c.args.part.now in
    let front = c.split_at.result.0.now in
    let back = c.split_at.result.1.now in
    let up = filled_up m h.state h.block part front back c.laid-full.result h.filled (omega arith) (omega arith) c.split_at.ensures.front_len
    c.split_at.ensures.by_index.0 c.laid-full.ensures fed.cut in
    let on = rw (← c.compress.ensures) at up in
    record {
      cut = rw (kept_front _ _ _ c.laid-else-part-room.ensures) (cut_join on c.absorb.ensures);
      counted = counted_more m part _ fed.counted;
    }
