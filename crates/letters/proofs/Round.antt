-- The parts of an entry, from the bytes up: each is read back, and found short where it is cut.
use Rattle.std.proofs.Common.{◌≡◌, ℕ, ◌+◌, ◌*◌, ◌/◌, ◌%◌, ◌^◌, ◌<◌, ◌≤◌, false, ltb, List, [], ◌∷◌, ◌++◌, length, sym, refl, ap, ◌∙◌, arith, le-ltb}
use Rattle.std.specs.List.{flat_map}
use Rattle.std.proofs.lemmas.Bool.{false_from_ne_true}
use Rattle.letters.specs.Answers.{got, read_times}
use Rattle.bookings.specs.Plain.{PlainMark, PlainStay, PlainChoice, PlainKind, book, cancel, change, supply, PlainEntry}
use Rattle.bookings.specs.Ranges.{Each, StayOk, ChoiceOk, KindOk}
use Rattle.bookings.specs.declared.limits.TheConstants.{MAX_CHOICES}
use Rattle.letters.specs.Format.{four, two, encode_mark, encode_choice, encode_choices, encode_kind, encode, read_one, read_two, read_four, read_mark, read_choice, read_choices, read_kind, read_numbers, reads, unless}
use Rattle.letters.specs.RangeTests.{in_range}
use Rattle.letters.specs.Laws.{KindFits, NightFits, NightsFit, Encodable, EntryOk, EntryRoundTrip, EntryPrefixFree, EntryCutShort, EntryOutOfRange}
use Rattle.letters.proofs.Codes.{Codes, codes_block, codes_then, codes_map, codes_judged, codes_times}
use Rattle.letters.proofs.RangeTests.{entry_decided}

pub four_is :
    (n : ℕ) → n < 2 ^ 32 → n / 16777216 % 256 * 16777216 + n / 65536 % 256 * 65536 + n / 256 % 256 * 256 + n % 256 ≡ n
four_is n h =
    let a : n / 65536 ≡ n / 256 / 256 = omega arith in
    let b : n / 16777216 ≡ n / 256 / 256 / 256 = omega arith in
    rw (a, b) (omega arith)

pub two_is : (n : ℕ) → n < 65536 → n / 256 % 256 * 256 + n % 256 ≡ n
two_is n h = omega arith

pub codes_one : (n : ℕ) → Codes read_one (n ∷ []) n
codes_one n = codes_block 1 _ (n ∷ []) n refl (λ rest. refl)

pub codes_two : (n : ℕ) → n < 65536 → Codes read_two (two n) n
codes_two n h = codes_block 2 _ (two n) n refl (λ rest. rw (two_is n h) refl)

pub codes_four : (n : ℕ) → n < 2 ^ 32 → Codes read_four (four n) n
codes_four n h = codes_block 4 _ (four n) n refl (λ rest. rw (four_is n h) refl)

codes_mark : (m : PlainMark) → m.stamp < 2 ^ 32 → Codes read_mark (encode_mark m) m
codes_mark m fits = codes_block 5 _ (encode_mark m) m refl (λ rest. rw (four_is m.stamp fits) refl)

codes_choice : (c : PlainChoice) → NightFits c → Codes read_choice (encode_choice c) c
codes_choice c fits = codes_block 5 _ (encode_choice c) c refl (λ rest. rw (two_is c.stay.night fits) refl)

codes_choices : (cs : List PlainChoice) → length cs ≤ MAX_CHOICES → Each NightFits cs → Codes read_choices (encode_choices cs) cs
codes_choices cs few fit =
    codes_then read_one (λ n r. unless (ltb MAX_CHOICES n) (read_times read_choice n r)) (length cs ∷ []) (flat_map encode_choice cs) (length cs) cs (codes_one (length cs))
    (rw (le-ltb MAX_CHOICES (length cs) few) (codes_times read_choice encode_choice NightFits codes_choice cs fit))

codes_kind : (k : PlainKind) → KindFits k → NightsFit k → Codes read_kind (encode_kind k) k
codes_kind (book guest cs) fits nights =
    codes_then read_one _ (1 ∷ []) _ 1 _ (codes_one 1)
    (codes_then read_four _ (four guest) _ guest _ (codes_four guest fits) (codes_map read_choices (book guest) _ cs (codes_choices cs nights.0 nights.1)))
codes_kind (cancel m) fits nights =
    codes_then read_one _ (2 ∷ []) _ 2 _ (codes_one 2) (codes_map read_mark cancel _ m (codes_mark m fits))
codes_kind (change m cs) fits nights =
    codes_then read_one _ (3 ∷ []) _ 3 _ (codes_one 3)
    (codes_then read_mark _ (encode_mark m) _ m _ (codes_mark m fits) (codes_map read_choices (change m) _ cs (codes_choices cs nights.0 nights.1)))
codes_kind (supply c) fits nights =
    codes_then read_one _ (4 ∷ []) _ 4 _ (codes_one 4) (codes_map read_choice supply _ c (codes_choice c nights))

codes_numbers : (e : PlainEntry) → Encodable e → Codes read_numbers (encode e) e
codes_numbers e fits =
    codes_then read_mark _ (encode_mark e.mark) (encode_kind e.kind) e.mark e (codes_mark e.mark fits.stamp_fits)
    (codes_map read_kind (λ k. record { mark = e.mark; kind = k }) (encode_kind e.kind) e.kind (codes_kind e.kind fits.kind_fits fits.nights_fit))

-- what is in range can be written
stay-night : (s : PlainStay) → StayOk s → s.night < 65536
stay-night s ok = omega (arith, ok)

choices-nights : (cs : List PlainChoice) → Each ChoiceOk cs → Each NightFits cs
choices-nights [] ok = tt
choices-nights (c ∷ cs) ok = (stay-night c.stay ok.0.0, choices-nights cs ok.1)

kind-nights : (k : PlainKind) → KindOk k → NightsFit k
kind-nights (book guest cs) ok = (ok.0, choices-nights cs ok.1)
kind-nights (cancel m) ok = tt
kind-nights (change m cs) ok = (ok.1.0, choices-nights cs ok.1.1)
kind-nights (supply c) ok = stay-night c.stay ok.0

encodable : (e : PlainEntry) → EntryOk e → Encodable e
encodable e ok = record { stamp_fits = ok.stamp_fits; kind_fits = ok.kind_fits; nights_fit = kind-nights e.kind ok.ranged.1 }

pub codes_entry : (e : PlainEntry) → EntryOk e → Codes reads (encode e) e
codes_entry e ok = codes_judged read_numbers in_range (encode e) e (codes_numbers e (encodable e ok)) ((entry_decided e).1 ok.ranged)

pub entry_round_trip_lem : EntryRoundTrip
entry_round_trip_lem e rest ok = (codes_entry e ok).round rest

pub entry-prefix-free : EntryPrefixFree
entry-prefix-free e f r s p q same =
    let a : reads (encode e ++ r) ≡ got e r = entry_round_trip_lem e r p in
    let b : reads (encode f ++ s) ≡ got f s = entry_round_trip_lem f s q in
    let c : got e r ≡ got f s = sym a ∙ ap reads same ∙ b in
    (cc, cc)

pub entry-cut-short : EntryCutShort
entry-cut-short e k fits h = rw ((codes_numbers e fits).cut k h) refl

pub entry_out_of_range_lem : EntryOutOfRange
entry_out_of_range_lem e rest fits off =
    let failed : in_range e ≡ false = false_from_ne_true (in_range e) (λ on. off ((entry_decided e).0 on)) in
    rw ((codes_numbers e fits).round rest, failed) refl
