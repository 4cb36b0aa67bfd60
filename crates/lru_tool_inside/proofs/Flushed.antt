-- What a run through a buffer leaves once the buffer is written.
use Rattle.std.proofs.Common.{List, ℕ, None, Some, ◌∙◌}
use Rattle.std.specs.Prelude.{Option, IfSome}
use Rattle.std.specs.Io.KnownBytes.{Appends, Keeps}
use Rattle.lru_tool_inside.specs.declared.settings.CoreSettings.{CoreSettings}
use Rattle.lru_tool_inside.specs.Commands.{Asked}
use Rattle.pingora_lru_files.specs.Stores.{Meaning}
use Rattle.lru_tool_inside.specs.Program.{Runs}

pub some_so : {A : Type 0} {P Q : A → Type 0} (o : Option A) → ((x : A) → P x → Q x) → IfSome o P → IfSome o Q
some_so None f p = tt
some_so (Some x) f p = f x p

-- what the buffer held is written
pub appends_kept : (a b c : Option (List ℕ)) (bs : List ℕ) → Appends a b bs → Keeps b c → Appends a c bs
appends_kept None b c bs p q = tt
appends_kept (Some x) None c bs p q = absurd p
appends_kept (Some x) (Some y) None bs p q = absurd q
appends_kept (Some x) (Some y) (Some z) bs p q = q ∙ p

pub runs_kept : {F : Type 0} (m : Meaning F) (settings : CoreSettings) (folder : F) (lines : List (Option Asked)) (status : ℕ) (old mid new : Option (List ℕ)) (last : F)
    → Runs m settings folder lines status old mid last → Keeps mid new → Runs m settings folder lines status old new last
runs_kept m settings folder lines status old mid new last r kept = (r.0, (r.1.0, (r.1.1.0, appends_kept old mid new r.1.0 r.1.1.1 kept)))
