use Rattle.std.proofs.Common.{◌<◌, length, vec_items, arith, rules}
use Rattle.std.proofs.lemmas.List.{get_or_read}
use Rattle.bookings.specs.Nights.{place_of}
use Rattle.bookings.specs.Views.{book_in}
use Rattle.bookings.proofs.Reach.{reached_sound}
use Rattle.bookings.proofs.book.Book.night.Goals as goal

pub index-requires : goal.index-requires
index-requires c =
    let sound = (reached_sound (book_in c.args.self.now) c.args.self.now.reached).0 in
    search rules

pub index-requires-2 : goal.index-requires-2
index-requires-2 c =
    let sound = (reached_sound (book_in c.args.self.now) c.args.self.now.reached).0 in
    search rules

pub returns : goal.returns
returns c =
    let sound = (reached_sound (book_in c.args.self.now) c.args.self.now.reached).0 in
    let place = place_of c.args.hut c.args.night in
    let in-beds : place < length (vec_items c.args.self.now.beds) = omega (arith, sound.long_beds) in
    let in-booked : place < length (vec_items c.args.self.now.booked) = omega (arith, sound.long_booked) in (
      omega arith,
      omega arith,
      get_or_read _ place _ in-beds c.index.ensures 0,
      get_or_read _ place _ in-booked c.index-2.ensures 0,
    )
