-- The lists that compute hold the readings. Assumes nothing.
use mathlib.Core.Path.{◌≡◌, sym, ◌∙◌, ap}
use mathlib.Core.List.{List}
use Prim.Native.Nat.{ℕ, zero, suc, ◌+◌, ◌*◌, ◌<◌, min, max}
use Rattle.fixpoint.specs.Interval.{Interval, Within, Assign}
use Rattle.fixpoint.specs.KnowledgeOrder.{bottom, join}
use Rattle.fixpoint.specs.LeastFixpoint.{Operator, iter, lfp}
use Rattle.fixpoint.specs.Support.{roof, support, close}
use Rattle.fixpoint.specs.WellFounded.{closed}
use Rattle.semantics.specs.Body.{T, unknown_by_default}
use Rattle.semantics.specs.Page.{Page}
use Rattle.semantics.proofs.Proper.{Proper}
use Rattle.semantics.specs.Reading.{IsPlain, IsClosed}
use Rattle.semantics.specs.Table.{table, interval_of, all_unknown}
use Rattle.fixpoint.proofs.LeastFixpoint.{ext, iter_within}
use Rattle.fixpoint.proofs.PlainReading.{operator}
use Rattle.fixpoint.proofs.Support.{raise_operator}
use Rattle.fixpoint.proofs.WellFounded.{close_operator}
use Rattle.semantics.proofs.Readings.{page_system, plain_is, closed_is, plain_one, closed_one}
use Rattle.semantics.proofs.Sweeps.{sweep, sweeps, plain_list, support_list, close_list, rounds, closed_list}
use Rattle.semantics.proofs.Table.{get_d_table}

nothing : Interval
nothing = record { low = 0; high = 0 }

held_table : (n : ℕ) (f : ℕ → Interval) (c : ℕ) → c < n → interval_of (table n f) c ≡ f c
held_table n f c l = get_d_table n f c (record { low = 0; high = 0 }) l

-- sweeps over lists are rounds of the iteration
pub sweeps_iter : {n top : ℕ} {U : Assign → ℕ → Interval} → Operator n top U → (k c : ℕ) → c < n → interval_of (sweeps n U k (all_unknown n top)) c ≡ iter top U k c
unfolding sweeps sweep all_unknown iter bottom
sweeps_iter {n} {top} {U} O zero c l = held_table n (λ c. record { low = 0; high = top }) c l
sweeps_iter {n} {top} {U} O (suc k) c l =
    held_table n (U (interval_of (sweeps n U k (all_unknown n top)))) c l
    ∙ ext O (interval_of (sweeps n U k (all_unknown n top))) (iter top U k) (sweeps_iter O k) c l

module _ (page : Page) (w : Proper page) where
  abbrev n : ℕ
  n = page.conditions

  abbrev top : ℕ
  top = page.top

  O : Operator n top (T page)
  O = operator (page_system page w)

  pub plain_list_lem : (P : Assign) → IsPlain page P → (c : ℕ) → c < page.conditions → P c ≡ interval_of (plain_list page) c
  unfolding plain_list lfp
  plain_list_lem P p c l = plain_one page w p (plain_is page w) c l ∙ sym (sweeps_iter O (n * (top + top)) c l)

  support_list_lem : (ps : List Interval) → ((c : ℕ) → c < n → Within top (interval_of ps c)) → (c : ℕ) → c < n
      → roof (interval_of (support_list page ps)) c ≡ support n top (T page) (unknown_by_default page) (interval_of ps) c
  unfolding support_list support roof lfp
  support_list_lem ps v c l = ap (λ (p : Interval). record { low = 0; high = p.low }) (sweeps_iter (raise_operator O (unknown_by_default page) (interval_of ps) v) (n * (top + top)) c l)

  close_list_lem : (ps : List Interval) → ((c : ℕ) → c < n → Within top (interval_of ps c)) → (c : ℕ) → c < n → interval_of (close_list page ps) c ≡ close n top (T page) (unknown_by_default page) (interval_of ps) c
  unfolding close_list close
  close_list_lem ps v c l =
      held_table n (T page (join (interval_of ps) (roof (interval_of (support_list page ps))))) c l
      ∙ ext O _ _ (λ b m. ap (λ (q : Interval). record { low = max (interval_of ps b).low q.low; high = min (interval_of ps b).high q.high }) (support_list_lem ps v b m)) c l

  pub rounds_iter : (k c : ℕ) → c < n → interval_of (rounds page k (all_unknown n top)) c ≡ iter top (close n top (T page) (unknown_by_default page)) k c
  unfolding rounds iter bottom all_unknown
  rounds_iter zero c l = held_table n (λ c. record { low = 0; high = top }) c l
  rounds_iter (suc k) c l =
      close_list_lem (rounds page k (all_unknown n top)) (λ b m. rw (rounds_iter k b m) (iter_within (close_operator O (unknown_by_default page)) k b m)) c l
      ∙ ext (close_operator O (unknown_by_default page)) (interval_of (rounds page k (all_unknown n top))) (iter top (close n top (T page) (unknown_by_default page)) k) (rounds_iter k) c l

  pub closed_list_lem : (P : Assign) → IsClosed page P → (c : ℕ) → c < page.conditions → P c ≡ interval_of (closed_list page) c
  unfolding closed_list closed lfp
  closed_list_lem P p c l = closed_one page w p (closed_is page w) c l ∙ sym (rounds_iter (n * (top + top)) c l)
