-- What the pieces of a file leave that were written so far.
use Rattle.std.proofs.Common.{◌≡◌, inl, inr, ℕ, ◌+◌, min, List, [], ◌++◌, length, take, Some, unwrap_or, refl, sym, ◌∙◌, ap, subst, arith, ⊎_elim, append_assoc, append-nil}
use Rattle.std.specs.FinMap.{get}
use Rattle.std.proofs.lemmas.List.{take_min, take-append-le}
use Rattle.std.proofs.Math.Seq.{take-append-add, take-append_seam}
use Rattle.lru_folder.specs.Files.{Files, bytes_at, appended, SomeFront}
use Rattle.lru_folder.specs.Meaning.{Meaning}
use Rattle.lru_folder.specs.Folder.{Passes}
use Rattle.lru_folder.specs.Losses.{IsSpread, Loses, loss_of, loosened, writing}
use Rattle.lru_folder.proofs.LossLemmas.{spread-more, spread-then, spread-overwritten, spread-appended}
use Rattle.lru_folder.proofs.FilesLemmas.{decide, alike, get-insert_same, get-insert_other}

-- a second piece behind the first
pub appended-appended : (path one two : List ℕ) (m : Files) → appended path two (appended path one m) ≡ appended path (one ++ two) m
appended-appended path one two m = alike _ _ (λ q. elim (decide q path) [
  | inl e ↦ subst (λ z. get (appended path two (appended path one m)) z ≡ get (appended path (one ++ two) m) z) (sym e)
      (get-insert_same (appended path one m) path _ ∙ ap (λ b. Some (unwrap_or b [] ++ two)) (get-insert_same m path (bytes_at m path ++ one))
      ∙ ap (λ (b : List ℕ). Some b) (append_assoc (bytes_at m path) one two) ∙ sym (get-insert_same m path (bytes_at m path ++ (one ++ two))))
  | inr ne ↦ get-insert_other (appended path one m) path _ q ne ∙ get-insert_other m path _ q ne ∙ sym (get-insert_other m path _ q ne)
])

-- no piece at a path that is there
pub appended-nil : (path held : List ℕ) (m : Files) → get m path ≡ Some held → appended path [] m ≡ m
appended-nil path held m here = alike _ _ (λ q. elim (decide q path) [
  | inl e ↦ subst (λ z. get (appended path [] m) z ≡ get m z) (sym e)
      (get-insert_same m path _ ∙ ap (λ b. Some (unwrap_or b [] ++ [])) here ∙ ap (λ (b : List ℕ). Some b) (append-nil held) ∙ sym here)
  | inr ne ↦ get-insert_other m path _ q ne
])

-- a front of a piece, behind those before it, is a front of all
pub take_behind : (done piece rest : List ℕ) (n : ℕ) → done ++ take n piece ≡ take (length done + min n (length piece)) (done ++ (piece ++ rest))
take_behind done piece rest n =
    ap (λ (t : List ℕ). done ++ t) (sym (take_min n piece) ∙ sym (take-append-le (min n (length piece)) piece rest (omega arith)))
    ∙ sym (take-append-add done (piece ++ rest) (min n (length piece)))

-- The pieces so far, of a file that was there: what is left of the bytes, and what they have done.
pub record WritesSoFar {F : Type 0} (meaning : Meaning F) (path bytes : List ℕ) (old mid : F) (rest : List ℕ) : Type 0 where
  pub done : List ℕ
  pub parts : done ++ rest ≡ bytes
  pub now : (held : List ℕ) → get (meaning.files old) path ≡ Some held → meaning.files mid ≡ appended path done (meaning.files old)
  pub time : (held : List ℕ) → get (meaning.files old) path ≡ Some held → Passes meaning (SomeFront path bytes) old mid
  pub loss : (held : List ℕ) → get (meaning.files old) path ≡ Some held → Loses meaning (writing path bytes) old mid

module _ {F : Type 0} (meaning : Meaning F) (path bytes : List ℕ) (old : F) where
  abbrev pub SoFar : F → List ℕ → Type 0
  SoFar = WritesSoFar meaning path bytes old

  -- before the first
  pub pieces_none : (rest : List ℕ) → rest ≡ bytes → SoFar old rest
  pieces_none rest is = record {
    done = [];
    parts = is;
    now = λ held here. sym (appended-nil path held (meaning.files old) here);
    time = λ held here. record { later = omega arith; nothing_else = λ t m le s. inl s; stays = λ t m le s. s; leaves = inl refl };
    loss = λ held here. record { nothing_else = λ t m le s. inl s; stays = λ t m le s. s; now = λ m s. inl s; loosens = λ q l. inr l };
  }

  -- a part of one piece more is a front of all
  front : (mid : F) (piece rest : List ℕ) → (so_far : SoFar mid (piece ++ rest)) → (held : List ℕ) → get (meaning.files old) path ≡ Some held
      → (m : Files) → SomeFront path piece (meaning.files mid) m → SomeFront path bytes (meaning.files old) m
  front mid piece rest so_far held here m (inl e) =
      inr (length so_far.done, e ∙ so_far.now held here ∙ ap (λ (v : List ℕ). appended path v (meaning.files old)) (sym (take-append_seam so_far.done (piece ++ rest)) ∙ ap (take (length so_far.done)) so_far.parts))
  front mid piece rest so_far held here m (inr part) =
      inr (
        length so_far.done + min part.0 (length piece),
        part.1 ∙ ap (appended path (take part.0 piece)) (so_far.now held here) ∙ appended-appended path so_far.done (take part.0 piece) (meaning.files old)
            ∙ ap (λ (v : List ℕ). appended path v (meaning.files old)) (take_behind so_far.done piece rest part.0 ∙ ap (take (length so_far.done + min part.0 (length piece))) so_far.parts),
      )

  -- one piece more, also where it fails
  pub piece_passes : (mid new : F) (at piece rest : List ℕ) → at ≡ path → SoFar mid (piece ++ rest) → Passes meaning (SomeFront at piece) mid new
      → (held : List ℕ) → get (meaning.files old) path ≡ Some held → Passes meaning (SomeFront path bytes) old new
  piece_passes mid new at piece rest is so_far passed held here =
      let before = so_far.time held here in
      let call = subst (λ (p : List ℕ). Passes meaning (SomeFront p piece) mid new) is passed in
      record {
        later = omega (arith, before.later, call.later);
        nothing_else = λ t m le s. ⊎_elim (λ earlier. before.nothing_else t m le earlier) (λ part. inr (front mid piece rest so_far held here m part)) (call.nothing_else t m (omega (arith, le, before.later)) s);
        stays = λ t m le s. call.stays t m (omega (arith, le, before.later)) (before.stays t m le s);
        leaves = front mid piece rest so_far held here (meaning.files new) call.leaves;
      }

  -- what it adds to what a loss of power may leave, all of them add
  adds : (mid : F) (piece rest : List ℕ) → (so_far : SoFar mid (piece ++ rest)) → (held : List ℕ) → get (meaning.files old) path ≡ Some held
      → (m : Files) → (writing path piece).maps (loss_of meaning mid) m → (writing path bytes).maps (loss_of meaning old) m
  adds mid piece rest so_far held here m (inl h) = ⊎_elim (λ s. inl (h.0, (s, h.1.1))) (λ p. ⊎_elim
      (λ g. inl (g.0, (g.1.0, spread-then (λ q. q ≡ path) g.0 h.0 m g.1.1 h.1.1)))
      (λ g. inr (spread-overwritten path (loosened path (meaning.loose old)) (appended path bytes (meaning.files old)) h.0 m (inl refl) g h.1.1)) p)
      ((so_far.loss held here).now h.0 h.1.0)
  adds mid piece rest so_far held here m (inr h) =
      let written = ap (appended path piece) (so_far.now held here) ∙ appended-appended path so_far.done piece (meaning.files old) in
      inr (spread-appended path (so_far.done ++ piece) bytes (meaning.loose old) (meaning.files old) m
      (spread-more (loosened path (meaning.loose mid)) (loosened path (meaning.loose old)) (appended path (so_far.done ++ piece) (meaning.files old)) m (λ q l. ⊎_elim inl (λ o. (so_far.loss held here).loosens q o) l)
      (subst (λ f. IsSpread (loosened path (meaning.loose mid)) f m) written h)))

  pub piece_loses : (mid new : F) (at piece rest : List ℕ) → at ≡ path → SoFar mid (piece ++ rest) → Loses meaning (writing at piece) mid new
      → (held : List ℕ) → get (meaning.files old) path ≡ Some held → Loses meaning (writing path bytes) old new
  piece_loses mid new at piece rest is so_far lost held here =
      let before = so_far.loss held here in
      let le = (so_far.time held here).later in
      let call = subst (λ (p : List ℕ). Loses meaning (writing p piece) mid new) is lost in
      record {
        nothing_else = λ t m early s. ⊎_elim (before.nothing_else t m early) (λ p. inr (adds mid piece rest so_far held here m p)) (call.nothing_else t m (omega (arith, early, le)) s);
        stays = λ t m early s. call.stays t m (omega (arith, early, le)) (before.stays t m early s);
        now = λ m s. ⊎_elim (before.now m) (λ p. inr (adds mid piece rest so_far held here m p)) (call.now m s);
        loosens = λ q l. ⊎_elim inl (before.loosens q) (call.loosens q l);
      }

  -- and where it was written
  pub pieces_more : (mid new : F) (at piece rest : List ℕ) → at ≡ path → SoFar mid (piece ++ rest) → Passes meaning (SomeFront at piece) mid new
      → Loses meaning (writing at piece) mid new → meaning.files new ≡ appended at piece (meaning.files mid) → SoFar new rest
  pieces_more mid new at piece rest is so_far passed lost written = record {
    done = so_far.done ++ piece;
    parts = append_assoc so_far.done piece rest ∙ so_far.parts;
    now = λ held here. written ∙ ap (λ (p : List ℕ). appended p piece (meaning.files mid)) is ∙ ap (appended path piece) (so_far.now held here) ∙ appended-appended path so_far.done piece (meaning.files old);
    time = piece_passes mid new at piece rest is so_far passed;
    loss = piece_loses mid new at piece rest is so_far lost;
  }

  -- after the last
  pub pieces_end : (mid : F) (rest : List ℕ) → rest ≡ [] → SoFar mid rest → (held : List ℕ) → get (meaning.files old) path ≡ Some held → meaning.files mid ≡ appended path bytes (meaning.files old)
  pieces_end mid rest none so_far held here =
      so_far.now held here ∙ ap (λ (v : List ℕ). appended path v (meaning.files old)) (sym (append-nil so_far.done) ∙ ap (λ (r : List ℕ). so_far.done ++ r) (sym none) ∙ so_far.parts)
