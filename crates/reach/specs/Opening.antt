-- Document 01, "Open a run": what the answer says, and the run area that an opening writes. Assumes nothing.
use Rattle.std.specs.Prelude.{◌≡◌, Bool, List, ℕ, ◌*◌, ◌<◌, length, drop, Result, Ok, Err}
use Rattle.fixpoint.specs.KnowledgeOrder.{unknown}
use Rattle.std.proofs.Math.Option.{none}
use Rattle.semantics.specs.Area.{page_of}
use Rattle.semantics.specs.Operation.{Opening, refused_opening, opened_with, Opened as Outcome, open_as}
use Rattle.semantics.specs.Reading.{closure, pass_count}
use Rattle.semantics.specs.RunArea.{interval_at, mark_at, mark_of}
use Rattle.semantics.specs.Table.{member}
use Rattle.refusal.specs.Numbers.{number_of}
use Rattle.refusal.specs.declared.Refusal.{Refusal}
use Rattle.reach.specs.declared.Opened.{Opened}

-- a refusal's number; or R, E, R + top × E and the count of passes
abbrev pub opening_of : Result Opened Refusal → Opening
opening_of (Err r) = refused_opening (number_of r)
opening_of (Ok o) = opened_with o.reached o.edges o.bound o.passes

-- the outcome where no cause holds
abbrev pub accepted : List ℕ → List ℕ → List ℕ → Outcome
accepted a qs r = open_as none (page_of a) (closure (page_of a) qs) (pass_count (page_of a) qs) r

-- n conditions hold [0;top], marked 2 if they are reached and 0 if not; what stands behind them stays
pub record Written (n top : ℕ) (marks : List Bool) (before after : List ℕ) : Type 0 where
  pub size : length after ≡ length before
  pub interval : (c : ℕ) → c < n → interval_at after c ≡ unknown top
  pub mark : (c : ℕ) → c < n → mark_at after c ≡ mark_of (member marks c) (member marks c)
  pub rest : drop (3 * n) after ≡ drop (3 * n) before
