-- What an operation leaves in a workspace, cause by cause. Assumes nothing.
use mathlib.Core.Path.{◌≡◌, refl}
use mathlib.Core.Bool.{true, false}
use mathlib.Core.List.{List, ◌++◌}
use mathlib.Core.Option.{none, some}
use Prim.Native.Nat.{ℕ, ◌≤◌, ◌<◌}
use lib.ListN.{length, drop}
use borrow.Author.Tests.{le-leb, lt-leb}
use Rattle.semantics.specs.Area.{sound, page_of}
use Rattle.semantics.specs.Operation.{zeros, index_length, workspace_as, drive_workspace}
use Rattle.semantics.specs.RunArea.{run_sound}

-- a refusal, a workspace that is too short, and one that is used
pub workspace_refused : (k : ℕ) (a w : List ℕ) → w ≡ workspace_as (some k) a w
workspace_refused k a w = refl

pub workspace_short : (a w : List ℕ) → length w < index_length a → w ≡ workspace_as none a w
workspace_short a w l = rw (lt-leb (index_length a) (length w) l)

pub workspace_used : (a w : List ℕ) → index_length a ≤ length w → zeros (index_length a) ++ drop (index_length a) w ≡ workspace_as none a w
workspace_used a w l = rw (le-leb (index_length a) (length w) l)

module _ (a r w : List ℕ) where
  pub drive_kept_10 : sound a ≡ false → w ≡ drive_workspace a r w
  unfolding drive_workspace
  drive_kept_10 e = rw e

  module _ (ok : sound a ≡ true) where
    pub drive_kept_14 : run_sound (page_of a) r ≡ false → w ≡ drive_workspace a r w
    unfolding drive_workspace
    drive_kept_14 e = rw (ok, e)

    pub drive_workspace_lem : run_sound (page_of a) r ≡ true → drive_workspace a r w ≡ workspace_as none a w
    unfolding drive_workspace
    drive_workspace_lem e = rw (ok, e)
