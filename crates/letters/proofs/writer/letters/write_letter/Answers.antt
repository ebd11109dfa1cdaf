use Rattle.std.proofs.Common.{◌≡◌, ℕ, ◌-◌, List, ◌∷◌, length, take, drop, vec_items, sym, refl, ap, ◌∙◌, subst, arith}
use Rattle.digest.specs.Sha256.{digest_of}
use Rattle.letters.specs.Buffers.{Room, Written}
use Rattle.letters.specs.Laws.{LetterOk}
use Rattle.letters.specs.Letters.{encode_body, encode_letter}
use Rattle.letters.specs.Sent.{plain_letter, letter_of}
use Rattle.letters.proofs.Lettering.{has_room, no_room_lem, room_digest, written-signed}
use Rattle.letters.proofs.Puts.{room_first}
use Rattle.letters.proofs.writer.letters.write_letter.Goals as goal

pub returns-then-capacity-start : goal.returns-then-capacity-start
returns-then-capacity-start c =
    let l = letter_of c.args.place c.args.committed.now c.args.tentative.now in
    record {
      written = refl;
      lawful = tt;
      refused = (omega (arith, c.if-committed-gt-MAX_LETTER_ENTRIES.false, c.if-tentative-committed.false), no_room_lem c.args.out.now l _ _ _ (c.letter_length.ensures.value l.place) c.if-capacity-start.true c.capacity.ensures c.len-start.ensures);
      enough = λ room _. absurd (omega (arith, room, c.letter_length.ensures.small, c.if-capacity-start.true, c.capacity.ensures, c.len-start.ensures));
    }

pub put_body-requires : goal.put_body-requires
put_body-requires c =
    let l = plain_letter c.place_of.result c.args.committed.now c.args.tentative.now in
    let room = has_room c.args.out.now l _ _ _ (c.letter_length.ensures.value l.place) c.if-capacity-start.false c.capacity.ensures c.len-start.ensures in
    record { few = omega arith; room = room_first c.args.out.now (66 ∷ encode_body l) (digest_of (66 ∷ encode_body l)) room }

pub put-requires : goal.put-requires
put-requires c =
    let l = plain_letter c.place_of.result c.args.committed.now c.args.tentative.now in
    let room = has_room c.args.out.now l _ _ _ (c.letter_length.ensures.value l.place) c.if-capacity-start.false c.capacity.ensures c.len-start.ensures in
    subst (Room c.put_body.new.out) (sym c.sha256-sum.ensures) (room_digest c.args.out.now c.put_body.new.out l _ room c.put_body.ensures.written)

pub returns : goal.returns
returns c =
    let l = plain_letter c.place_of.result c.args.committed.now c.args.tentative.now in
    let a = c.args.out.now in
    let b = c.put_body.new.out in
    let slice = c.as_slice.result.now in
    let slice_is : slice ≡ vec_items b = c.as_slice.ensures.value in
    let sum_is_lem =
    c.sha256-sum.ensures
    ∙ ap (λ (xs : List ℕ). digest_of (take (length xs - c.len-start.result) (drop c.len-start.result xs))) slice_is
    ∙ ap (λ (k : ℕ). digest_of (take (length (vec_items b) - k) (drop k (vec_items b)))) c.len-start.ensures in
    let whole : Written a c.put.new.out (encode_letter l) =
    written-signed a b c.put.new.out (66 ∷ encode_body l) c.sha256-sum.result (sym (ap length slice_is) ∙ c.as_slice.ensures.len)
    c.put_body.ensures.written
    sum_is_lem
    c.put.ensures in
    record {
      written = subst (λ p. Written a c.put.new.out (encode_letter (plain_letter p c.args.committed.now c.args.tentative.now))) c.place_of.ensures whole;
      lawful = subst (λ p. LetterOk (plain_letter p c.args.committed.now c.args.tentative.now)) c.place_of.ensures c.put_body.ensures.fits;
      refused = omega (arith, c.if-committed-gt-MAX_LETTER_ENTRIES.false, c.if-tentative-committed.false);
      enough = λ _ _. refl;
    }
