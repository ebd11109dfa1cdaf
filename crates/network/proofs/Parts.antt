-- Beginnings and ends of lists: what is committed first, and what was written earlier.
use Rattle.std.proofs.Common.{◌≡◌, ◌≤◌, ◌⊎◌, List, [], ◌∷◌, ◌++◌, length, sym, refl, ap, ◌∙◌, inl, inr, append_assoc, append-nil, arith, length-append}
use Rattle.bookings.specs.Plain.{PlainEntry}
use Rattle.journal.specs.History.{Committed, PlainRecord, Tentative}
use Rattle.network.specs.Promise.{Prefix}
use Rattle.network.specs.Replicas.{committed_of}

-- a history as it was earlier: newest records come first
abbrev pub Older : List PlainRecord → List PlainRecord → Type 0
Older old all = (newer : List PlainRecord) × (all ≡ newer ++ old)

pub older_self : (a : List PlainRecord) → Older a a
older_self a = ([], refl)

pub older_one : (r : PlainRecord) (a : List PlainRecord) → Older a (r ∷ a)
older_one r a = (r ∷ [], refl)

pub older_trans : (a b c : List PlainRecord) → Older a b → Older b c → Older a c
older_trans a b c p q = (q.0 ++ p.0, q.1 ∙ ap (λ (l : List PlainRecord). q.0 ++ l) p.1 ∙ sym (append_assoc q.0 p.0 a))

-- of two earlier histories one is the earlier
pub older_either : (a b c : List PlainRecord) → Older a c → Older b c → Older a b ⊎ Older b a
older_either a b c p q = go p.0 q.0 (sym p.1 ∙ q.1)
  where
    go : (m n : List PlainRecord) → m ++ a ≡ n ++ b → Older a b ⊎ Older b a
    go [] n e = inr (n, e)
    go (r ∷ m) [] e = inl (r ∷ m, sym e)
    go (r ∷ m) (s ∷ n) e = go m n (cc)

-- one history that begins with a record, within another that does: they are the same, or it is within the rest
pub older_heads : (r s : PlainRecord) (a b : List PlainRecord) → Older (r ∷ a) (s ∷ b) → ((r ≡ s) × (a ≡ b)) ⊎ Older (r ∷ a) b
older_heads r s a b p = go p.0 p.1
  where
    go : (newer : List PlainRecord) → s ∷ b ≡ newer ++ (r ∷ a) → ((r ≡ s) × (a ≡ b)) ⊎ Older (r ∷ a) b
    go [] e = inl (cc, cc)
    go (x ∷ newer) e = inr (newer, cc)

pub prefix_self : (a : List PlainEntry) → Prefix a a
prefix_self a = ([], sym (append-nil a))

pub prefix_trans : (a b c : List PlainEntry) → Prefix a b → Prefix b c → Prefix a c
prefix_trans a b c p q = (p.0 ++ q.0, q.1 ∙ ap (λ (l : List PlainEntry). l ++ q.0) p.1 ∙ append_assoc a p.0 q.0)

-- two beginnings of one list: one is the beginning of the other
pub prefix_either : (a b c : List PlainEntry) → Prefix a c → Prefix b c → Prefix a b ⊎ Prefix b a
prefix_either a b c p q = go a b (sym p.1 ∙ q.1)
  where
    go : (a b : List PlainEntry) → a ++ p.0 ≡ b ++ q.0 → Prefix a b ⊎ Prefix b a
    go [] b e = inl (b, refl)
    go (x ∷ a) [] e = inr (x ∷ a, refl)
    go (x ∷ a) (y ∷ b) e =
        let u : x ≡ y = cc in
        elim (go a b (cc)) [ inl r ↦ inl (r.0, let t = r.1 in cc) | inr r ↦ inr (r.0, let t = r.1 in cc) ]

-- two beginnings of one list with one length are equal
pub prefix-length : (a b c d : List PlainEntry) → a ++ c ≡ b ++ d → length a ≡ length b → a ≡ b
prefix-length [] [] c d e l = refl
prefix-length [] (y ∷ b) c d e l = absurd (omega arith)
prefix-length (x ∷ a) [] c d e l = absurd (omega arith)
prefix-length (x ∷ a) (y ∷ b) c d e l = let u : x ≡ y = cc in let r = prefix-length a b c d (cc) (omega arith) in cc

-- a beginning that is as long as all is all
pub prefix_full : (a b : List PlainEntry) → Prefix a b → length b ≤ length a → b ≡ a
prefix_full a b p l = go p.0 p.1
  where
    go : (c : List PlainEntry) → b ≡ a ++ c → b ≡ a
    go [] e = e ∙ append-nil a
    go (x ∷ c) e = absurd (omega (arith, ap length e, length-append a (x ∷ c)))

-- newer records add only to the end of what is committed
committed_more : (newer old : List PlainRecord) → committed_of (newer ++ old) ≡ committed_of old ++ committed_of newer
committed_more [] old = sym (append-nil (committed_of old))
committed_more (Tentative e ∷ newer) old = committed_more newer old
committed_more (Committed e ∷ newer) old = ap (λ (l : List PlainEntry). l ++ (e ∷ [])) (committed_more newer old) ∙ append_assoc (committed_of old) (committed_of newer) (e ∷ [])

pub committed_older : (old all : List PlainRecord) → Older old all → Prefix (committed_of old) (committed_of all)
committed_older old all p = (committed_of p.0, ap committed_of p.1 ∙ committed_more p.0 old)
