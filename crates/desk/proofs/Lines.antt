-- Lines that are written one behind the other.
use Rattle.std.proofs.Common.{◌≡◌, ℕ, zero, suc, ◌+◌, ◌<◌, ◌≤◌, nat_lt, Option, List, [], ◌∷◌, ◌++◌, map, length, get_or, take, refl, sym, ap, ◌∙◌, append-nil, append_assoc, add-zero, add-one, arith, length-take-le, subst}
use Rattle.std.proofs.KnownBytes.{Appends-nil, Appends-trans}
use Rattle.std.proofs.lemmas.List.{take_more}
use Rattle.std.specs.Io.KnownBytes.{Appends}
use Rattle.bookings.specs.Books.{PlainBook}
use Rattle.bookings.specs.Plain.{plain, plain_kind, plain_mark}
use Rattle.bookings.specs.declared.entry.Entry.{Entry}
use Rattle.bookings.specs.declared.entry.Kind.{Kind}
use Rattle.bookings.specs.declared.entry.Kind.TheVariants as entries
use Rattle.bookings.specs.declared.limits.TheConstants.{NIGHTS}
use Rattle.console.specs.Answers.{kind_name_of, standing_of}
use Rattle.console.specs.Requests.{raw_mark}
use Rattle.console.specs.declared.answer.Answer.TheVariants as answers
use Rattle.desk.specs.Said.{texts, nights_lines, huts_lines, line_of, line_if, logged_line, name_of}
use Rattle.desk.specs.Answers.{noted_on}

-- nothing is written yet; and one thing behind another
pub begun : (a : Option (List ℕ)) (ls : List ℕ) → ls ≡ [] → Appends a a ls
begun a ls none = subst (Appends a a) (sym none) (Appends-nil a)

pub gone_on : (a b c : Option (List ℕ)) (xs ys zs : List ℕ) → Appends a b xs → Appends b c ys → xs ++ ys ≡ zs → Appends a c zs
gone_on a b c xs ys zs one next is = subst (Appends a c) is (Appends-trans a b c xs ys one next)

pub texts_none : {A : Type 0} (f : ℕ → A → List ℕ) (p : ℕ) → texts f p [] ≡ []
unfolding texts
texts_none f p = refl

-- one line more
texts_push :
    {A : Type 0} (f : ℕ → A → List ℕ) (p : ℕ) (xs : List A) (x : A) → texts f p (xs ++ x ∷ []) ≡ texts f p xs ++ f (p + length xs) x
unfolding texts
texts_push f p [] x = append-nil (f p x) ∙ rw (add-zero p) refl
texts_push f p (y ∷ ys) x =
    let on : p + 1 + length ys ≡ p + suc (length ys) = omega arith in
    ap (λ t. f p y ++ t) (texts_push f (p + 1) ys x ∙ rw on refl) ∙ sym (append_assoc (f p y) (texts f (p + 1) ys) (f (p + suc (length ys)) x))

pub texts_more :
    {A : Type 0} (f : ℕ → A → List ℕ) (xs : List A) (i : ℕ) (d x : A) → i < length xs → x ≡ get_or xs i d
    → texts f 0 (take i xs) ++ f i x ≡ texts f 0 (take (i + 1) xs)
texts_more f xs i d x h is =
    let many : 0 + length (take i xs) ≡ i = let fit : i ≤ length xs = omega arith in rw (length-take-le i xs fit) (omega arith) in
    sym (ap (texts f 0) (take_more xs i d h) ∙ texts_push f 0 (take i xs) (get_or xs i d) ∙ rw (many, is) refl)

mapped : {A B : Type 0} (f : A → B) (xs : List A) (i : ℕ) (d : A) → get_or (map f xs) i (f d) ≡ f (get_or xs i d)
mapped f [] i d = refl
mapped f (x ∷ xs) zero d = refl
mapped f (x ∷ xs) (suc i) d = mapped f xs i d

as_many : {A B : Type 0} (f : A → B) (xs : List A) → length (map f xs) ≡ length xs
as_many f [] = refl
as_many f (x ∷ xs) = ap (λ n. suc n) (as_many f xs)

named : (k : Kind) → kind_name_of k ≡ name_of (plain_kind k)
named (entries.Book g cs) = refl
named (entries.Cancel m) = refl
named (entries.Change m cs) = refl
named (entries.Beds s) = refl

pub entries_more :
    (committed : ℕ) (xs : List Entry) (i : ℕ) (e : Entry) → i < length xs → e ≡ get_or xs i e
    → texts (logged_line committed) 0 (take i (map plain xs))
    ++ line_of (answers.Logged i (raw_mark (plain_mark e.mark)) (standing_of (nat_lt i committed)) (kind_name_of e.kind))
    ≡ texts (logged_line committed) 0 (take (i + 1) (map plain xs))
entries_more committed xs i e h is =
    ap
    (λ name. texts (logged_line committed) 0 (take i (map plain xs))
    ++ line_of (answers.Logged i (raw_mark (plain_mark e.mark)) (standing_of (nat_lt i committed)) name))
    (named e.kind)
    ∙ texts_more (logged_line committed) (map plain xs) i (plain e) (plain e) (omega (arith, as_many plain xs, h)) (ap plain is ∙ sym (mapped plain xs i e))

pub no_nights : (b : PlainBook) (hut : ℕ) → nights_lines b hut 0 ≡ []
unfolding nights_lines
no_nights b hut = refl

pub no_huts : (b : PlainBook) → huts_lines b 0 ≡ []
unfolding huts_lines
no_huts b = refl

pub nights_more : (b : PlainBook) (hut n : ℕ) → nights_lines b hut n ++ line_if (noted_on b hut n) ≡ nights_lines b hut (n + 1)
unfolding nights_lines
nights_more b hut n = rw add-one refl

pub huts_more : (b : PlainBook) (n : ℕ) → huts_lines b n ++ nights_lines b n NIGHTS ≡ huts_lines b (n + 1)
unfolding huts_lines
huts_more b n = rw add-one refl
