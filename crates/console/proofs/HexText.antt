-- How the text of bytes goes on by one.
use Rattle.std.proofs.Common.{◌≡◌, ℕ, ◌+◌, ◌/◌, ◌%◌, ◌<◌, ◌^◌, ◌-◌, false, List, [], ◌∷◌, ◌++◌, length, get_or, take, sym, refl, ap, ◌∙◌}
use Rattle.std.proofs.lemmas.Fmt.{hex_byte}
use Rattle.std.proofs.lemmas.List.{take_more}
use Rattle.std.specs.Fmt.{padded_integral, format_spec, digits}
use Rattle.console.specs.Hexes.{digit_for, hex_text}

hex_text-push : (bytes : List ℕ) (b : ℕ) → hex_text (bytes ++ b ∷ []) ≡ hex_text bytes ++ digit_for (b / 16) ∷ digit_for (b % 16) ∷ []
unfolding hex_text
hex_text-push [] b = refl
hex_text-push (a ∷ bytes) b = ap (λ t. digit_for (a / 16) ∷ digit_for (a % 16) ∷ t) (hex_text-push bytes b)

pub hex_text_none : [] ≡ hex_text []
unfolding hex_text
hex_text_none = refl

-- a byte more, as two digits
pub hex_text_more :
    (bytes : List ℕ) (i : ℕ) → i < length bytes → get_or bytes i 0 < 256
    → hex_text (take i bytes) ++ padded_integral (format_spec 32 0 4 2 (2 ^ 64 - 1)) false [] (digits 16 false (get_or bytes i 0)) ≡ hex_text (take (i + 1) bytes)
hex_text_more bytes i within small =
    ap (λ t. hex_text (take i bytes) ++ t) (hex_byte false (get_or bytes i 0) small) ∙ sym (hex_text-push (take i bytes) (get_or bytes i 0))
    ∙ ap hex_text (sym (take_more bytes i 0 within))
