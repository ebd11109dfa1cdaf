-- A buffer that bytes are put into.
use Rattle.std.specs.Prelude.{◌≡◌, ℕ, ◌+◌, ◌≤◌, List, ◌++◌, length, vec_items, vec_len, vec_capacity}
use Rattle.std.specs.Global.{Vec}

-- the memory that a buffer has suffices for these bytes more
abbrev pub Room : Vec ℕ → List ℕ → Type 0
Room v bs = vec_len v + length bs ≤ vec_capacity v

-- bytes stand behind those that were there, in the same memory
pub record Written (was is : Vec ℕ) (bs : List ℕ) : Type 0 where
  pub items : vec_items is ≡ vec_items was ++ bs
  pub len : vec_len is ≡ vec_len was + length bs
  pub capacity : vec_capacity is ≡ vec_capacity was
