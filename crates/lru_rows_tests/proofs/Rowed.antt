-- Laws of keys in a list: one more at its end, and one taken away.
use Rattle.std.proofs.Common.{◌≡◌, ℕ, ◌<◌, List, [], ◌∷◌, ◌++◌, length, get_or, set, Option, Some, None, refl, sym, ap, ◌∙◌, subst, inl, inr, zero, suc}
use Rattle.std.proofs.lemmas.List.{get_or-set_same, get_or-set_other, get_or_past}
use Rattle.std.proofs.lemmas.Bool.{cases_eq, cases_lt}
use Rattle.lru_index.specs.Index.{put, gone}
use Rattle.lru_index.proofs.Tables.{put_here, put_other, gone_here, gone_other, none_is, some_is}
use Rattle.lru_rows_tests.specs.Rows.{key_in}

module _ {K : Type 0} where
  at_end : (keys : List (Option K)) (o : Option K) → get_or (keys ++ o ∷ []) (length keys) None ≡ o
  at_end [] o = refl
  at_end (x ∷ xs) o = at_end xs o

  elsewhere : (keys : List (Option K)) (o : Option K) (q : ℕ) → (length keys ≡ q → ⊥) → get_or keys q None ≡ get_or (keys ++ o ∷ []) q None
  elsewhere [] o zero ne = absurd (ne refl)
  elsewhere [] o (suc q) ne = refl
  elsewhere (x ∷ xs) o zero ne = refl
  elsewhere (x ∷ xs) o (suc q) ne = elsewhere xs o q (λ e. ne (ap suc e))

  pub pushed : (keys : List (Option K)) (k : K) (q : ℕ) → put (key_in keys) (length keys) k q ≡ key_in (keys ++ Some k ∷ []) q
  pushed keys k q =
      elim (cases_eq (length keys) q) [
        | inl e ↦
            subst (λ x. put (key_in keys) (length keys) k x ≡ key_in (keys ++ Some k ∷ []) x) e
            (put_here (key_in keys) (length keys) k ∙ sym (at_end keys (Some k)))
        | inr ne ↦ put_other (key_in keys) (length keys) k q ne ∙ elsewhere keys (Some k) q ne
      ]

  pub within : (keys : List (Option K)) (p : ℕ) (k : K) → key_in keys p ≡ Some k → p < length keys
  within keys p k e =
      elim (cases_lt p (length keys)) [
        | inl l ↦ l
        | inr m ↦ absurd (none_is k (sym (get_or_past keys p None m) ∙ e))
      ]

  pub taken : (keys : List (Option K)) (p : ℕ) → p < length keys → (q : ℕ) → gone (key_in keys) p q ≡ key_in (set keys p None) q
  taken keys p l q =
      elim (cases_eq p q) [
        | inl e ↦
            subst (λ x. gone (key_in keys) p x ≡ key_in (set keys p None) x) e
            (gone_here (key_in keys) p ∙ sym (get_or-set_same keys p None None l))
        | inr ne ↦ gone_other (key_in keys) p q ne ∙ sym (get_or-set_other keys p q None None (λ e. ne (sym e)))
      ]

  module _ (keys new : List (Option K)) (k k' : K) (p : ℕ) (is : new ≡ keys ++ Some k ∷ []) (last : p ≡ length keys) (read : key_in new p ≡ Some k') where
    -- the key that is read is the one that was added
    pub same_key : k ≡ k'
    same_key =
        some_is k k'
        (sym (at_end keys (Some k)) ∙ ap (λ n. get_or (keys ++ Some k ∷ []) n None) (sym last) ∙ ap (λ xs. get_or xs p None) (sym is) ∙ read)

    pub added : (q : ℕ) → put (key_in keys) p k' q ≡ key_in new q
    added q =
        ap (λ n. put (key_in keys) n k' q) last ∙ ap (λ x. put (key_in keys) (length keys) x q) (sym same_key)
        ∙ pushed keys k q ∙ ap (λ xs. key_in xs q) (sym is)
