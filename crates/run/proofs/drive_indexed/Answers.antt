-- `run::drive_indexed` meets its contract. Assumes nothing.
use mathlib.Core.Path.{sym, ◌∙◌}
use native.Mathlib.Omega.{arith}
use Rattle.semantics.proofs.Workspaces.{workspace_short, workspace_used, drive_workspace_lem}
use Rattle.index.proofs.Parts.{erased_front}
use Rattle.run.proofs.Driving.{drive_answers}
use Rattle.run.proofs.drive_indexed.Goals as goal

pub returns-then-workspace-m : goal.returns-then-workspace-m
returns-then-workspace-m c =
    let z = c.args in
    let s = c.in_ok-page.ensures in
    let m = rw s.0 at c.index_length-m.ensures in
    record {
      answer = drive_answers _ _ _ s.1 s.2 (rw (c.scanned.ensures, s.0) at c.drive_over.ensures);
      workspace = workspace_short z.page.now z.workspace.now (omega (arith, m, c.if-workspace-m.true)) ∙ sym (drive_workspace_lem z.page.now z.run.now z.workspace.now s.1 s.2);
    }

pub returns : goal.returns
returns c =
    let z = c.args in
    let s = c.in_ok-page.ensures in
    let m = rw s.0 at c.index_length-m.ensures in
    record {
      answer = drive_answers _ _ _ s.1 s.2 (rw s.0 at c.drive_built-drove.ensures);
      workspace = rw m.0 at (erased_front z.workspace.now c.drive_built-drove.new.workspace c.drive_built-drove.auto.workspace (omega (arith, c.if-workspace-m.false)) c.erase.ensures)
          ∙ workspace_used z.page.now z.workspace.now (omega (arith, m, c.if-workspace-m.false))
          ∙ sym (drive_workspace_lem z.page.now z.run.now z.workspace.now s.1 s.2);
    }
