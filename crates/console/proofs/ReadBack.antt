-- A command that is written down is read back as that command.
use Rattle.std.proofs.Common.{◌≡◌, ℕ, ◌+◌, ◌*◌, ◌<◌, ◌≤◌, cond, List, [], ◌∷◌, ◌++◌, length, Some, Ok, Err, sym, refl, ap, ◌∙◌, arith, le-ltb, eq-eqb, ne_eqb}
use Rattle.bookings.specs.Plain.{PlainChoice, PlainKind, book, cancel, change, supply}
use Rattle.bookings.specs.Ranges.{Each}
use Rattle.bookings.specs.declared.limits.TheConstants.{HUTS, MAX_CHOICES, MAX_REHEARSAL_HUTS}
use Rattle.console.specs.declared.command.Expected.{Expected}
use Rattle.console.specs.declared.command.Expected.TheVariants.{Take}
use Rattle.console.specs.declared.numbers.TheConstants.{MAX_NUMBERS}
use Rattle.console.specs.declared.verb.Verb.{Verb}
use Rattle.console.specs.declared.verb.Verb.TheVariants.{Huts, At, Book, Cancel, Change, Beds, Ink, Have, Show, Line, Got, Serve, Letter, Walk, Lose, Again, Cut, Stop, Help}
use Rattle.console.specs.Commands.{Said, pass, huts, at, make, ink, have, show_night, show, log, got, serve, letter, taken, walk, lose, again, cut, stop, help, said_by, hut_lines, take_name, by_words, parsed}
use Rattle.console.specs.Hexes.{IsByte, bytes_of, hex_text}
use Rattle.console.specs.Languages.{Language, with_numbers_in, in_form_in}
use Rattle.console.specs.Lines.{written, choice_numbers, request_line, line_of, TenDigits, RequestSayable, Sayable}
use Rattle.console.specs.Numbers.{numbers_of}
use Rattle.console.specs.Requests.{fours, choices_of}
use Rattle.console.specs.Verbs.{name_of}
use Rattle.console.specs.Words.{spaced, words}
use Rattle.console.proofs.FoursOn.{choices_read}
use Rattle.console.proofs.HexBack.{hex_word, hex_text-is_hex, bytes_of-hex_text}
use Rattle.console.proofs.Languages.{written_says}
use Rattle.console.proofs.SaidBy.{book_says, change_says}
use Rattle.console.proofs.WrittenWords.{word_then, words_of_spaced}

-- a verb's name is a word, and names that verb
pub name_then : (v : Verb) (ws : List (List ℕ)) → words (spaced ws) ≡ ws → words (name_of v ++ spaced ws) ≡ name_of v ∷ ws
name_then Huts ws further = word_then _ _ [] ws tt further
name_then At ws further = word_then _ _ [] ws tt further
name_then Book ws further = word_then _ _ [] ws tt further
name_then Cancel ws further = word_then _ _ [] ws tt further
name_then Change ws further = word_then _ _ [] ws tt further
name_then Beds ws further = word_then _ _ [] ws tt further
name_then Ink ws further = word_then _ _ [] ws tt further
name_then Have ws further = word_then _ _ [] ws tt further
name_then Show ws further = word_then _ _ [] ws tt further
name_then Line ws further = word_then _ _ [] ws tt further
name_then Got ws further = word_then _ _ [] ws tt further
name_then Serve ws further = word_then _ _ [] ws tt further
name_then Letter ws further = word_then _ _ [] ws tt further
name_then Walk ws further = word_then _ _ [] ws tt further
name_then Lose ws further = word_then _ _ [] ws tt further
name_then Again ws further = word_then _ _ [] ws tt further
name_then Cut ws further = word_then _ _ [] ws tt further
name_then Stop ws further = word_then _ _ [] ws tt further
name_then Help ws further = word_then _ _ [] ws tt further

pub name_says : (v : Verb) (ws : List (List ℕ)) → by_words hut_lines (name_of v ∷ ws) ≡ in_form_in hut_lines v (with_numbers_in hut_lines v (numbers_of MAX_NUMBERS ws))
name_says Huts ws = refl
name_says At ws = refl
name_says Book ws = refl
name_says Cancel ws = refl
name_says Change ws = refl
name_says Beds ws = refl
name_says Ink ws = refl
name_says Have ws = refl
name_says Show ws = refl
name_says Line ws = refl
name_says Got ws = refl
name_says Serve ws = refl
name_says Letter ws = refl
name_says Walk ws = refl
name_says Lose ws = refl
name_says Again ws = refl
name_says Cut ws = refl
name_says Stop ws = refl
name_says Help ws = refl

says : (v : Verb) (ns : List ℕ) → length ns ≤ MAX_NUMBERS → Each TenDigits ns → parsed (written v ns) ≡ in_form_in hut_lines v (said_by v ns)
says v ns few all = written_says hut_lines (by_words hut_lines) (name_of v) v ns (name_then v) (name_says v) few all

-- choices, as four numbers each
length-choice_numbers : (cs : List PlainChoice) → length (choice_numbers cs) ≡ 4 * length cs
length-choice_numbers [] = refl
length-choice_numbers (c ∷ cs) = omega (arith, length-choice_numbers cs)

fours_of_numbers : (cs : List PlainChoice) → fours (choice_numbers cs) ≡ cs
fours_of_numbers [] = refl
fours_of_numbers (c ∷ cs) = ap (λ t. c ∷ t) (fours_of_numbers cs)

choices_of_numbers : (cs : List PlainChoice) → length cs ≤ MAX_CHOICES → choices_of (choice_numbers cs) ≡ Some cs
choices_of_numbers cs few =
    let long = length-choice_numbers cs in
    sym (choices_read cs (choice_numbers cs) (omega arith) (omega arith) (sym (fours_of_numbers cs)))

request_reads_back : (k : PlainKind) → RequestSayable k → parsed (request_line k) ≡ Ok (make k)
request_reads_back (book g cs) h =
    says Book (g ∷ choice_numbers cs) (omega (arith, length-choice_numbers cs)) h.0
    ∙ ap (in_form_in hut_lines Book) (sym (book_says (g ∷ choice_numbers cs) (choice_numbers cs) g (Some cs) refl (sym (choices_of_numbers cs h.1))))
request_reads_back (cancel m) h = says Cancel (m.stamp ∷ m.hut ∷ []) (omega arith) h
request_reads_back (change m cs) h =
    says Change (m.stamp ∷ m.hut ∷ choice_numbers cs) (omega (arith, length-choice_numbers cs)) h.0
    ∙ ap (in_form_in hut_lines Change)
    (sym (change_says (m.stamp ∷ m.hut ∷ choice_numbers cs) (choice_numbers cs) m (Some cs) (omega arith) refl refl (sym (choices_of_numbers cs h.1))))
request_reads_back (supply c) h = says Beds (choice_numbers (c ∷ [])) (omega arith) h

take_then : (ws : List (List ℕ)) → words (spaced ws) ≡ ws → words (take_name ++ spaced ws) ≡ take_name ∷ ws
take_then ws further = word_then _ _ [] ws tt further

-- in any language
pub letter-reads_back :
    {V : Type 0} (l : Language V Said Expected) (bytes : List ℕ) → Each IsByte bytes → 0 < length bytes
    → by_words l (words (take_name ++ spaced (hex_text bytes ∷ []))) ≡ Ok (taken bytes)
letter-reads_back l bytes all some =
    let further = words_of_spaced (hex_text bytes ∷ []) (hex_word bytes all some, tt) in
    ap (by_words l) (take_then (hex_text bytes ∷ []) further)
    ∙ ap (λ t. cond t (Ok (taken (bytes_of (hex_text bytes)))) (Err Take)) (hex_text-is_hex bytes all)
    ∙ ap (λ t. Ok (taken t)) (bytes_of-hex_text bytes all)

pub lines_read_back : (s : Said) → Sayable s → parsed (line_of s) ≡ Ok s
lines_read_back pass h = refl
lines_read_back (huts hs) h =
    says Huts hs (omega arith) h.0 ∙ rw (ne_eqb (length hs) 0 (omega arith), le-ltb MAX_REHEARSAL_HUTS (length hs) h.2) refl
lines_read_back (at n) h = says At (n ∷ []) (omega arith) (h, tt)
lines_read_back (make k) h = request_reads_back k h
lines_read_back ink h = says Ink [] (omega arith) tt
lines_read_back have h = says Have [] (omega arith) tt
lines_read_back (show_night n m) h = says Show (n ∷ m ∷ []) (omega arith) (h.0, (h.1, tt))
lines_read_back show h = says Show [] (omega arith) tt
lines_read_back log h = says Line [] (omega arith) tt
lines_read_back (got m) h = says Got (m.stamp ∷ m.hut ∷ []) (omega arith) (h.0, (h.1, tt))
lines_read_back (serve ns) h = says Serve ns (omega arith) h.0 ∙ rw (eq-eqb (length ns) HUTS h.1) refl
lines_read_back (letter n ns) h =
    says Letter (n ∷ ns) (omega arith) h.0 ∙ rw (eq-eqb (length (n ∷ ns)) (1 + HUTS) (omega arith)) refl
lines_read_back (taken bytes) h = letter-reads_back hut_lines bytes h.0 h.1
lines_read_back (walk n m) h = says Walk (n ∷ m ∷ []) (omega arith) (h.0, (h.1, tt))
lines_read_back (lose n m) h = says Lose (n ∷ m ∷ []) (omega arith) (h.0, (h.1, tt))
lines_read_back (again n m) h = says Again (n ∷ m ∷ []) (omega arith) (h.0, (h.1, tt))
lines_read_back (cut n m k) h = says Cut (n ∷ m ∷ k ∷ []) (omega arith) (h.0, (h.1, (h.2, tt)))
lines_read_back (stop n m) h = says Stop (n ∷ m ∷ []) (omega arith) (h.0, (h.1, tt))
lines_read_back help h = says Help [] (omega arith) tt
