-- A row tells where it ends, where its key and its data do.
use Rattle.std.specs.Prelude.{◌≡◌, ℕ, List, ◌++◌}
use Rattle.std.proofs.Common.{sym, ap, ◌∙◌, append_assoc}
use Rattle.lru_frames.specs.declared.row.Row.{Row}
use Rattle.lru_frames.specs.Words.{word}
use Rattle.lru_frames.specs.WordLaws.{one_word}
use Rattle.lru_frames.specs.Rows.{row_bytes, IsRow, IsSameRow}

module _ {K V : Type 0} (key_bytes : K → List ℕ) (data_bytes : V → List ℕ) where
  -- the parts of a row before more bytes
  pub row_parts : (row : Row K V) (x : List ℕ) → row_bytes key_bytes data_bytes row ++ x ≡ key_bytes row.key ++ (data_bytes row.data ++ (word row.weight ++ x))
  row_parts row x =
      append_assoc (key_bytes row.key) (data_bytes row.data ++ word row.weight) x ∙ ap (λ (y : List ℕ). key_bytes row.key ++ y) (append_assoc (data_bytes row.data) (word row.weight) x)

module _ {K V : Type 0} (key_bytes : K → List ℕ) (IsKey : K → Type 0) (IsSameKey : K → K → Type 0) (data_bytes : V → List ℕ) (IsData : V → Type 0) (IsSameData : V → V → Type 0) where
  pub one_row : ((a b : K) (x y : List ℕ) → IsKey a → IsKey b → key_bytes a ++ x ≡ key_bytes b ++ y → IsSameKey a b × (x ≡ y))
      → ((a b : V) (x y : List ℕ) → IsData a → IsData b → data_bytes a ++ x ≡ data_bytes b ++ y → IsSameData a b × (x ≡ y))
      → (a b : Row K V) (x y : List ℕ) → IsRow IsKey IsData a → IsRow IsKey IsData b → row_bytes key_bytes data_bytes a ++ x ≡ row_bytes key_bytes data_bytes b ++ y
      → IsSameRow IsSameKey IsSameData a b × (x ≡ y)
  one_row one_key one_data a b x y is_a is_b h =
      let keys = one_key a.key b.key (data_bytes a.data ++ (word a.weight ++ x)) (data_bytes b.data ++ (word b.weight ++ y)) is_a.0 is_b.0 (sym (row_parts key_bytes data_bytes a x) ∙ h ∙ row_parts key_bytes data_bytes b y) in
      let datas = one_data a.data b.data (word a.weight ++ x) (word b.weight ++ y) is_a.1 is_b.1 keys.1 in
      let weights = one_word a.weight b.weight x y is_a.2 is_b.2 datas.1 in
      ((keys.0, datas.0, weights.0), weights.1)
