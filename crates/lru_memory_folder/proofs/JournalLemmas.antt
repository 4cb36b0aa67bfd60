-- One call more in a journal.
use Rattle.std.proofs.Common.{◌≡◌, ◌+◌, ◌<◌, ℕ, length, take, get_or, List, [], ◌∷◌, ◌++◌, map, refl, sym, ◌∙◌, ap}
use Rattle.std.proofs.lemmas.List.{take_more}
use Rattle.lru_folder.specs.Files.{Files}
use Rattle.lru_memory_folder.specs.declared.calls.EndedCall.{EndedCall}
use Rattle.lru_memory_folder.specs.Calls.{Noted, effect, after}
use Rattle.lru_memory_folder.specs.DeedInside.{noted_of}
use Rattle.lru_memory_folder.proofs.CallsLemmas.{after-push}

noted-push : (calls : List EndedCall) (e : EndedCall) → map noted_of (calls ++ e ∷ []) ≡ map noted_of calls ++ noted_of e ∷ []
noted-push [] e = refl
noted-push (c ∷ cs) e = ap (λ l. noted_of c ∷ l) (noted-push cs e)

-- the calls so far, and the next one
pub noted-more : (calls : List EndedCall) (i : ℕ) (e : EndedCall) → i < length calls → e ≡ get_or calls i e → map noted_of (take (i + 1) calls) ≡ map noted_of (take i calls) ++ noted_of e ∷ []
noted-more calls i e lt is = ap (map noted_of) (take_more calls i e lt ∙ ap (λ x. take i calls ++ x ∷ []) (sym is)) ∙ noted-push (take i calls) e

-- the files that are held are still those that the calls left
pub replayed : (start : Files) (calls roomy new : List EndedCall) (e : EndedCall) (held held' : Files) → held ≡ after (map noted_of calls) start → roomy ≡ calls
    → new ≡ roomy ++ e ∷ [] → held' ≡ effect (noted_of e) held → held' ≡ after (map noted_of new) start
replayed start calls roomy new e held held' was same pushed done =
    done ∙ ap (effect (noted_of e)) was ∙ sym (after-push (map noted_of calls) (noted_of e) start)
    ∙ ap (λ (l : List Noted). after l start) (sym (noted-push calls e) ∙ ap (λ (l : List EndedCall). map noted_of (l ++ e ∷ [])) (sym same) ∙ ap (map noted_of) (sym pushed))
