-- The support and the assignments on what is reached are the computed ones there, and so is the count. Assumes nothing.
use mathlib.Core.Path.{◌≡◌, refl, sym, ◌∙◌, subst}
use mathlib.Core.Bool.{Bool, true, false, cond}
use Prim.Native.Nat.{ℕ, zero, suc, ◌<◌}
use native.Mathlib.Omega.{arith}
use Rattle.fixpoint.specs.Interval.{Interval, Within, Assign}
use Rattle.fixpoint.specs.KnowledgeOrder.{Under, Alike, bottom, unknown, join, certainly_false}
use Rattle.fixpoint.specs.System.{System}
use Rattle.fixpoint.specs.LeastFixpoint.{Operator, iter}
use Rattle.fixpoint.specs.ChaoticIteration.{DependencyClosed}
use Rattle.fixpoint.specs.Support.{assumption, Safe, IsSupport, support, close}
use Rattle.fixpoint.specs.WellFounded.{stage}
use Rattle.fixpoint.specs.Reachable.{IsCount}
use Rattle.semantics.specs.Rounds.{SafeOn, IsSupportOn, IsStages, IsRoundCount}
use Rattle.fixpoint.proofs.Cond.{by_bool, cond_true, cond_false}
use Rattle.fixpoint.proofs.KnowledgeOrder.{under_antisym}
use Rattle.fixpoint.proofs.PlainReading.{operator}
use Rattle.fixpoint.proofs.Support.{support_is}
use Rattle.fixpoint.proofs.WellFounded.{stage_within}
use Rattle.fixpoint.proofs.Reachable.{T_alike, support_alike}

join_eq : (I J X Y : Assign) (b : ℕ) → I b ≡ J b → X b ≡ Y b → join I X b ≡ join J Y b
join_eq I J X Y b e f = rw (e, f)

unknown_assumed : (t : Bool) (top : ℕ) → Under (unknown top) (cond t (unknown top) certainly_false)
unknown_assumed true top = omega arith
unknown_assumed false top = omega arith

module _ {n top : ℕ} {T : Assign → ℕ → Interval} {names : ℕ → ℕ → Bool} (S : System n top T names)
    {reached : ℕ → Bool} (shut : DependencyClosed n names reached) (free : ℕ → Bool) where
  abbrev O : Operator n top T
  O = operator S

  abbrev InOn : Assign → Type 0
  InOn I = (c : ℕ) → c < n → reached c ≡ true → Within top (I c)

  T_on : (I J : Assign) → Alike n reached I J → Alike n reached (T I) (T J)
  T_on = T_alike S shut (λ I c l r. refl) {free = free} (λ c l r. refl)

  support_same : (I J : Assign) → Alike n reached I J → Alike n reached (support n top T free I) (support n top T free J)
  support_same = support_alike S shut (λ I c l r. refl) (λ c l r. refl)

  -- I on what is reached, and [0;top] elsewhere
  cut : Assign → Assign
  cut I c = cond (reached c) (I c) (unknown top)

  cut_on : (I : Assign) (c : ℕ) → reached c ≡ true → cut I c ≡ I c
  unfolding cut
  cut_on I c r = cond_true (I c) (unknown top) r

  cut_off : (I : Assign) (c : ℕ) → reached c ≡ false → cut I c ≡ unknown top
  unfolding cut
  cut_off I c r = cond_false (I c) (unknown top) r

  by_cut : (Q : Interval → Type 0) (I : Assign) (c : ℕ) → (reached c ≡ true → Q (I c)) → (reached c ≡ false → Q (unknown top)) → Q (cut I c)
  by_cut Q I c h g = by_bool (reached c) (λ r. subst Q (sym (cut_on I c r)) (h r)) (λ r. subst Q (sym (cut_off I c r)) (g r))

  cut_in : (I : Assign) → InOn I → (c : ℕ) → c < n → Within top (cut I c)
  cut_in I w c l = by_cut (Within top) I c (w c l) (λ r. omega arith)

  cut_safe : (I K : Assign) → InOn I → SafeOn n top T free reached I K → Safe n top T free (cut I) (cut K)
  cut_safe I K w s =
      record {
        within = cut_in K s.within;
        assumed = λ c l. by_cut (λ p. Under p (assumption top free c)) K c (s.assumed c l) (λ r. unknown_assumed (free c) top);
        borne = λ c l. by_cut (λ p. Under p (T (join (cut I) (cut K)) c)) K c
            (λ r. subst (Under (K c)) (T_on (join I K) (join (cut I) (cut K)) (λ b m e. join_eq I (cut I) K (cut K) b (sym (cut_on I b e)) (sym (cut_on K b e))) c l r) (s.borne c l r))
            (λ r. omega (arith, S.bounded (join (cut I) (cut K)) (λ b m. omega (arith, cut_in I w b m, cut_in K s.within b m)) c l));
      }

  -- the computed support is the support on what is reached, and there is one
  pub support_on : (I : Assign) → InOn I → IsSupportOn n top T free reached I (support n top T free I)
  support_on I w =
      record {
        safe = record {
          within = λ c l r. subst (Within top) (sym (same c l r)) (J_is.safe.within c l);
          assumed = λ c l r. subst (λ (p : Interval). Under p (assumption top free c)) (sym (same c l r)) (J_is.safe.assumed c l);
          borne = λ c l r.
              subst (λ (p : Interval). Under p (T (join I (support n top T free I)) c)) (sym (same c l r))
              (subst (Under (J c)) (T_on (join (cut I) J) (join I (support n top T free I)) (λ b m e. join_eq (cut I) I J (support n top T free I) b (cut_on I b e) (sym (same b m e))) c l r) (J_is.safe.borne c l));
        };
        greatest = λ K s c l r.
            subst (λ (p : Interval). Under p (support n top T free I c)) (cut_on K c r)
            (subst (Under (cut K c)) (sym (same c l r)) (J_is.greatest (cut K) (cut_safe I K w s) c l));
      }
    where
      J : Assign
      J = support n top T free (cut I)

      J_is : IsSupport n top T free (cut I) J
      J_is = support_is O free (cut I) (cut_in I w)

      same : Alike n reached (support n top T free I) J
      same = support_same I (cut I) (λ b m e. sym (cut_on I b e))

  pub support_on_one : {I J K : Assign} → IsSupportOn n top T free reached I J → IsSupportOn n top T free reached I K → Alike n reached J K
  support_on_one {J = J} {K = K} p q c l r = under_antisym (q.greatest J p.safe c l r) (p.greatest K q.safe c l r)

  -- what is a support of an assignment like round k is its computed support there
  support_at : (k : ℕ) {I J : Assign} → Alike n reached I (stage n top T free k) → IsSupportOn n top T free reached I J
      → Alike n reached J (support n top T free (stage n top T free k))
  support_at k {I} h i c l r =
      support_on_one i (support_on I (λ b m e. subst (Within top) (sym (h b m e)) (stage_within O free k b m))) c l r
      ∙ support_same I (stage n top T free k) h c l r

  -- the assignments are the rounds of the closed reading, and their supports the supports of those
  pub stages_stage : {A : ℕ → Assign} → IsStages n top T free reached A → (k : ℕ) → Alike n reached (A k) (stage n top T free k)
  stages_stage {A} s zero c l r = s.first c l r ∙ unfold stage iter bottom in refl
  stages_stage {A} s (suc k) c l r =
      s.next k c l r
      ∙ T_on (join (A k) (s.support k)) (join (stage n top T free k) (support n top T free (stage n top T free k)))
      (λ b m e. join_eq (A k) (stage n top T free k) (s.support k) (support n top T free (stage n top T free k)) b (stages_stage s k b m e) (support_at k (stages_stage s k) (s.is_support k) b m e)) c l r
      ∙ unfold stage iter close in refl

  pub stages_support : {A : ℕ → Assign} (s : IsStages n top T free reached A) (k : ℕ)
      → Alike n reached (s.support k) (support n top T free (stage n top T free k))
  stages_support s k = support_at k (stages_stage s k) (s.is_support k)

  pub stage_stages : IsStages n top T free reached (stage n top T free)
  stage_stages =
      record {
        first = λ c l r. unfold stage iter bottom in refl;
        support = λ k. support n top T free (stage n top T free k);
        is_support = λ k. support_on (stage n top T free k) (λ c l r. stage_within O free k c l);
        next = λ k c l r. unfold stage iter close in refl;
      }

  -- so the count is that of those rounds
  pub counted_count : {k : ℕ} → IsRoundCount n top T free reached k → IsCount n top (close n top T free) reached k
  unfolding stage
  counted_count {k} i =
      record {
        still = λ c l r. sym (at k c l r) ∙ i.still c l r ∙ at (suc k) c l r;
        moving = λ j m h. i.moving j m (λ c l r. at j c l r ∙ h c l r ∙ sym (at (suc j) c l r));
      }
    where
      at : (j : ℕ) → Alike n reached (i.assignment j) (stage n top T free j)
      at = stages_stage i.stages

  pub count_counted : {k : ℕ} → IsCount n top (close n top T free) reached k → IsRoundCount n top T free reached k
  unfolding stage
  count_counted {k} i = record { assignment = stage n top T free; stages = stage_stages; still = i.still; moving = i.moving }

-- the same set, told in another way, has the same count
pub count_over : {n top : ℕ} {T : Assign → ℕ → Interval} {names : ℕ → ℕ → Bool} → System n top T names → {marked reached : ℕ → Bool}
    → DependencyClosed n names marked → DependencyClosed n names reached → (free : ℕ → Bool) → ((c : ℕ) → c < n → marked c ≡ reached c)
    → {k : ℕ} → IsRoundCount n top T free marked k → IsRoundCount n top T free reached k
count_over S shut shut' free same i =
    let j = counted_count S shut free i in
    count_counted S shut' free
    (record { still = λ c l r. j.still c l (same c l ∙ r); moving = λ m l h. j.moving m l (λ c z r. h c z (sym (same c z) ∙ r)) })
