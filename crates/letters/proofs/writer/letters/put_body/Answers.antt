use Rattle.std.proofs.Common.{◌++◌, map, length, sym, subst, arith}
use lib.ListN.{length-map}
use Rattle.std.specs.List.{flat_map}
use Rattle.bookings.specs.Plain.{plain}
use Rattle.entry_log.specs.Waits.{plain_waiting}
use Rattle.letters.specs.Buffers.{Room}
use Rattle.letters.specs.Format.{encode, two}
use Rattle.letters.specs.Letters.{encode_waiting}
use Rattle.letters.proofs.Bodies.{head_bytes, body_parts}
use Rattle.letters.proofs.Puts.{written_then, written_as, room_first, room_then}
use Rattle.letters.proofs.writer.letters.put_body.Goals as goal

pub put_all-requires : goal.put_all-requires
put_all-requires c =
    let out = c.args.out.now in
    let head = head_bytes c.args.place (length c.args.committed.now) in
    let es = flat_map encode (map plain c.args.committed.now) in
    let more = two (length c.args.tentative.now) ++ flat_map encode_waiting (map plain_waiting c.args.tentative.now) in
    let room = subst (Room out) (body_parts c.args.place c.args.committed.now c.args.tentative.now) c.requires.room in
    room_first c.put.new.out es more
    (room_then out c.put.new.out head (es ++ more) room (simp (c.to_be_bytes.ensures, c.to_be_bytes-2.ensures) at c.put.ensures))

pub put-requires-2 : goal.put-requires-2
put-requires-2 c =
    let out = c.args.out.now in
    let head = head_bytes c.args.place (length c.args.committed.now) in
    let es = flat_map encode (map plain c.args.committed.now) in
    let ws = flat_map encode_waiting (map plain_waiting c.args.tentative.now) in
    let more = two (length c.args.tentative.now) ++ ws in
    let room = subst (Room out) (body_parts c.args.place c.args.committed.now c.args.tentative.now) c.requires.room in
    subst (Room c.put_all.new.out) (sym c.to_be_bytes-3.ensures)
    (room_first c.put_all.new.out (two (length c.args.tentative.now)) ws
    (room_then c.put.new.out c.put_all.new.out es more
    (room_then out c.put.new.out head (es ++ more) room (simp (c.to_be_bytes.ensures, c.to_be_bytes-2.ensures) at c.put.ensures))
    c.put_all.ensures.written))

pub put_all-requires-2 : goal.put_all-requires-2
put_all-requires-2 c =
    let out = c.args.out.now in
    let head = head_bytes c.args.place (length c.args.committed.now) in
    let es = flat_map encode (map plain c.args.committed.now) in
    let ws = flat_map encode_waiting (map plain_waiting c.args.tentative.now) in
    let count = two (length c.args.tentative.now) in
    let room = subst (Room out) (body_parts c.args.place c.args.committed.now c.args.tentative.now) c.requires.room in
    room_then c.put_all.new.out c.put-2.new.out count ws
    (room_then c.put.new.out c.put_all.new.out es (count ++ ws)
    (room_then out c.put.new.out head (es ++ (count ++ ws)) room (simp (c.to_be_bytes.ensures, c.to_be_bytes-2.ensures) at c.put.ensures))
    c.put_all.ensures.written)
    (written_as c.put_all.new.out c.put-2.new.out _ count c.to_be_bytes-3.ensures c.put-2.ensures)

pub returns : goal.returns
returns c =
    let out = c.args.out.now in
    let end = c.put_all-2.new.out in
    let head = head_bytes c.args.place (length c.args.committed.now) in
    let es = flat_map encode (map plain c.args.committed.now) in
    let ws = flat_map encode_waiting (map plain_waiting c.args.tentative.now) in
    let count = two (length c.args.tentative.now) in
    record {
      written =
          written_as out end _ _ (sym (body_parts c.args.place c.args.committed.now c.args.tentative.now))
          (written_then out c.put.new.out end head (es ++ (count ++ ws)) (simp (c.to_be_bytes.ensures, c.to_be_bytes-2.ensures) at c.put.ensures)
          (written_then c.put.new.out c.put_all.new.out end es (count ++ ws) c.put_all.ensures.written
          (written_then c.put_all.new.out c.put-2.new.out end count ws
          (written_as c.put_all.new.out c.put-2.new.out _ count c.to_be_bytes-3.ensures c.put-2.ensures)
          c.put_all-2.ensures.written)));
      fits =
          record {
            place_ok = omega arith;
            committed_ok = c.put_all.ensures.fits;
            tentative_ok = c.put_all-2.ensures.fits;
            few = simp length-map c.requires.few;
          };
    }
