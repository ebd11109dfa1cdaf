-- How the text of stamps goes on by one.
use Rattle.std.proofs.Common.{◌≡◌, ℕ, ◌+◌, ◌<◌, List, [], ◌∷◌, ◌++◌, length, get_or, take, decimal, sym, ap, ◌∙◌, append_assoc}
use Rattle.std.proofs.lemmas.List.{append-nil, take_more}
use Rattle.entry_log.specs.Texts.{stamps_behind}

behind-push : (ns : List ℕ) (n : ℕ) → stamps_behind (ns ++ n ∷ []) ≡ stamps_behind ns ++ 32 ∷ decimal n
unfolding stamps_behind
behind-push [] n = ap (λ t. 32 ∷ t) (append-nil (decimal n))
behind-push (m ∷ ns) n =
    ap (λ t. 32 ∷ (decimal m ++ t)) (behind-push ns n) ∙ ap (λ t. 32 ∷ t) (sym (append_assoc (decimal m) (stamps_behind ns) (32 ∷ decimal n)))

pub behind_none : (text : List ℕ) → text ≡ text ++ stamps_behind []
unfolding stamps_behind
behind_none text = sym (append-nil text)

pub behind_more :
    (text ns : List ℕ) (i : ℕ) → i < length ns
    → (text ++ stamps_behind (take i ns)) ++ 32 ∷ decimal (get_or ns i 0) ≡ text ++ stamps_behind (take (i + 1) ns)
behind_more text ns i within =
    append_assoc text _ _
    ∙ ap (λ t. text ++ t) (sym (ap stamps_behind (take_more ns i 0 within) ∙ behind-push (take i ns) (get_or ns i 0)))
