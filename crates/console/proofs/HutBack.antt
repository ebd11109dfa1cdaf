-- A command of a hut that is written down is read back as that command, at a hut.
use Rattle.std.proofs.Common.{◌≡◌, ℕ, true, List, [], ◌∷◌, map, Some, None, Ok, decimal, Option, sym, refl, ap, ◌∙◌}
use Rattle.std.proofs.lemmas.Bool.{false≢true}
use Rattle.bookings.specs.Plain.{PlainKind, book, cancel, change, supply}
use Rattle.bookings.specs.Ranges.{Each}
use Rattle.console.specs.declared.numbers.TheConstants.{MAX_NUMBERS}
use Rattle.console.specs.declared.verb.Verb.{Verb}
use Rattle.console.specs.declared.verb.Verb.TheVariants.{Book, Cancel, Change, Beds, Ink, Have, Show, Line, Got, Serve, Letter, Help}
use Rattle.console.specs.Commands.{Said, pass, huts, at, make, ink, have, show_night, show, log, got, serve, letter, taken, walk, lose, again, cut, stop, help, hut_lines, by_words, parsed}
use Rattle.console.specs.HutLines.{hut_says, own_lines, hut_parsed}
use Rattle.console.specs.Languages.{with_numbers_in, in_form_in}
use Rattle.console.specs.Lines.{written, choice_numbers, request_line, line_of, TenDigits, RequestSayable, Sayable}
use Rattle.console.specs.Numbers.{numbers_of}
use Rattle.console.specs.Verbs.{name_of}
use Rattle.console.proofs.ReadBack.{name_then, name_says, letter-reads_back, lines_read_back}
use Rattle.console.proofs.WrittenWords.{words_of_spaced, decimals_are_words}

-- what numbers say behind a verb of a hut is what they say anywhere
same_form : (v : Verb) (o : Option Said) → in_form_in own_lines (record { verb = v }) o ≡ in_form_in hut_lines v o
same_form v None = refl
same_form v (Some s) = refl

same_numbers :
    (v : Verb) (o : Option (List ℕ))
    → in_form_in own_lines (record { verb = v }) (with_numbers_in own_lines (record { verb = v }) o) ≡ in_form_in hut_lines v (with_numbers_in hut_lines v o)
same_numbers v None = refl
same_numbers v (Some ns) = same_form v (hut_lines.said_by v ns)

-- the line of a verb that a hut reads says there what it says anywhere
same_line :
    (v : Verb) (ns : List ℕ)
    → ((ws : List (List ℕ)) → by_words own_lines (name_of v ∷ ws) ≡ in_form_in own_lines (record { verb = v }) (with_numbers_in own_lines (record { verb = v }) (numbers_of MAX_NUMBERS ws)))
    → Each TenDigits ns → hut_parsed (written v ns) ≡ parsed (written v ns)
same_line v ns says all =
    let start = name_then v (map decimal ns) (words_of_spaced (map decimal ns) (decimals_are_words ns all)) in
    ap (by_words own_lines) start ∙ says (map decimal ns) ∙ same_numbers v (numbers_of MAX_NUMBERS (map decimal ns)) ∙ sym (name_says v (map decimal ns))
    ∙ sym (ap (by_words hut_lines) start)

same_request : (k : PlainKind) → RequestSayable k → hut_parsed (request_line k) ≡ parsed (request_line k)
same_request (book g cs) h = same_line Book (g ∷ choice_numbers cs) (λ ws. refl) h.0
same_request (cancel m) h = same_line Cancel (m.stamp ∷ m.hut ∷ []) (λ ws. refl) h
same_request (change m cs) h = same_line Change (m.stamp ∷ m.hut ∷ choice_numbers cs) (λ ws. refl) h.0
same_request (supply c) h = same_line Beds (choice_numbers (c ∷ [])) (λ ws. refl) h

same_said : (s : Said) → Sayable s → hut_says s ≡ true → hut_parsed (line_of s) ≡ parsed (line_of s)
same_said pass h of_hut = refl
same_said (huts hs) h of_hut = absurd (false≢true of_hut)
same_said (at n) h of_hut = absurd (false≢true of_hut)
same_said (make k) h of_hut = same_request k h
same_said ink h of_hut = same_line Ink [] (λ ws. refl) tt
same_said have h of_hut = same_line Have [] (λ ws. refl) tt
same_said (show_night n m) h of_hut = same_line Show (n ∷ m ∷ []) (λ ws. refl) (h.0, (h.1, tt))
same_said show h of_hut = same_line Show [] (λ ws. refl) tt
same_said log h of_hut = same_line Line [] (λ ws. refl) tt
same_said (got m) h of_hut = same_line Got (m.stamp ∷ m.hut ∷ []) (λ ws. refl) (h.0, (h.1, tt))
same_said (serve ns) h of_hut = same_line Serve ns (λ ws. refl) h.0
same_said (letter n ns) h of_hut = same_line Letter (n ∷ ns) (λ ws. refl) h.0
same_said (taken bytes) h of_hut = letter-reads_back own_lines bytes h.0 h.1 ∙ sym (letter-reads_back hut_lines bytes h.0 h.1)
same_said (walk n m) h of_hut = absurd (false≢true of_hut)
same_said (lose n m) h of_hut = absurd (false≢true of_hut)
same_said (again n m) h of_hut = absurd (false≢true of_hut)
same_said (cut n m k) h of_hut = absurd (false≢true of_hut)
same_said (stop n m) h of_hut = absurd (false≢true of_hut)
same_said help h of_hut = same_line Help [] (λ ws. refl) tt

pub hut_lines_read_back : (s : Said) → Sayable s → hut_says s ≡ true → hut_parsed (line_of s) ≡ Ok s
hut_lines_read_back s h of_hut = same_said s h of_hut ∙ lines_read_back s h
