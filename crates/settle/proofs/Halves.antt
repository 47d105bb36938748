-- One end of every condition while the other ends stay: what it comes to, and when it is there. Assumes nothing.
--
-- The high ends over a given floor, and the low ends over given high ends, are the two halves of a round of the alternating fixed point.
-- Both are told at once, over the end e. The high ends of the free conditions stay.
use mathlib.Core.Path.{◌≡◌, refl, sym, ◌∙◌, ap, ap₂}
use mathlib.Core.Bool.{Bool, true, false, cond, false≢true}
use Prim.Native.Nat.{ℕ, ◌≤◌, ◌<◌, min, max}
use native.Mathlib.Omega.{arith}
use Rattle.fixpoint.specs.Interval.{Interval, Within, Assign}
use Rattle.fixpoint.specs.KnowledgeOrder.{Under, Alike, join}
use Rattle.fixpoint.specs.System.{System}
use Rattle.fixpoint.specs.LeastFixpoint.{Operator, lfp}
use Rattle.fixpoint.specs.ChaoticIteration.{DependencyClosed}
use Rattle.fixpoint.specs.Support.{roof, raise, support}
use Rattle.fixpoint.specs.AlternatingFixpoint.{mix, floor, highs, lift, lows}
use Rattle.fixpoint.proofs.Cond.{by_bool, cond_true, cond_false, cond_eq}
use Rattle.fixpoint.proofs.KnowledgeOrder.{pair_eq}
use Rattle.fixpoint.proofs.Merge.{floor_in}
use Rattle.fixpoint.proofs.LeastFixpoint.{lfp_within, lfp_fixed, lfp_under}
use Rattle.fixpoint.proofs.PlainReading.{operator}
use Rattle.fixpoint.proofs.Reachable.{lfp_alike}
use Rattle.fixpoint.proofs.ChaoticHalves.{raise_system, lift_system, raise_at, lift_at}
use Rattle.semantics.specs.Grade.{End, lower, upper}
use Rattle.value.specs.Table.{end_of, other}
use Rattle.settle.specs.Ends.{EndLocal, nobody, stays, settled_all, settled_end}

-- K, with the ends e that X holds as the low ends of pairs, but for those that stay
abbrev pub given : (ℕ → Bool) → End → Assign → Assign → Assign
given free upper K X c = record { low = (K c).low; high = cond (free c) (K c).high (X c).low }
given free lower K X c = record { low = (X c).low; high = (K c).high }

-- the operator of each half
abbrev pub half : ℕ → (Assign → ℕ → Interval) → (ℕ → Bool) → End → Assign → Assign → ℕ → Interval
half top T free upper K = raise top T free (floor top free K)
half top T free lower K = lift top T nobody K

pub end_in : (e : End) {top : ℕ} (p : Interval) → Within top p → end_of e p ≤ top
end_in upper p w = w.high_in
end_in lower p w = w.low_in

pub ends_in : (e : End) {top : ℕ} (p : Interval) → end_of e p ≤ top → end_of (other e) p ≤ top → Within top p
ends_in upper p w v = record { low_in = v; high_in = w }
ends_in lower p w v = record { low_in = w; high_in = v }

ends_eq : (e : End) (p q : Interval) → end_of e p ≡ end_of e q → end_of (other e) p ≡ end_of (other e) q → p ≡ q
ends_eq upper p q h g = pair_eq g h
ends_eq lower p q h g = pair_eq h g

abbrev pub AllIn : ℕ → ℕ → Assign → Type 0
AllIn n top K = (c : ℕ) → c < n → Within top (K c)

half_high : (top : ℕ) (T : Assign → ℕ → Interval) (free : ℕ → Bool) (e : End) (K X : Assign) (c : ℕ) → (half top T free e K X c).high ≡ top
unfolding raise lift
half_high top T free upper K X c = refl
half_high top T free lower K X c = refl

-- an end that stays is open in the operator
half_stays : (top : ℕ) (T : Assign → ℕ → Interval) (free : ℕ → Bool) (e : End) (K X : Assign) (c : ℕ) → stays e free c ≡ true → (half top T free e K X c).low ≡ top
unfolding raise
half_stays top T free upper K X c f = cond_true top _ f
half_stays top T free lower K X c f = absurd (false≢true f)

module _ (n top : ℕ) (T : Assign → ℕ → Interval) (free : ℕ → Bool) where
  settled_given : (e : End) (K : Assign) (c : ℕ) → given free e K (lfp n top (half top T free e K)) c ≡ settled_all e n top T free K c
  unfolding highs support roof lows
  settled_given upper K c = refl
  settled_given lower K c = refl

  pub settled_is : (e : End) (K : Assign) (c : ℕ) → stays e free c ≡ false → (lfp n top (half top T free e K) c).low ≡ settled_end e n top T free K c
  unfolding highs support roof lows
  settled_is upper K c f = sym (cond_false (K c).high _ f)
  settled_is lower K c f = refl

  pub settled_stays : (e : End) (K : Assign) (c : ℕ) → stays e free c ≡ true → settled_end e n top T free K c ≡ end_of e (K c)
  settled_stays upper K c f = cond_true (K c).high _ f
  settled_stays lower K c f = absurd (false≢true f)

  pub settled_other : (e : End) (K : Assign) (c : ℕ) → end_of (other e) (settled_all e n top T free K c) ≡ end_of (other e) (K c)
  settled_other upper K c = refl
  settled_other lower K c = refl

module _ {n top : ℕ} {T : Assign → ℕ → Interval} {names : ℕ → ℕ → Bool} {reads : Bool → ℕ → ℕ → Bool} (S : System n top T names) (E : EndLocal n T names reads) (free : ℕ → Bool) where
  pub half_system : (e : End) (K : Assign) → AllIn n top K → System n top (half top T free e K) (reads false)
  unfolding raise roof lift
  half_system upper K w =
      record {
        local = λ X Y a l h. ap (λ (x : ℕ). record { low = cond (free a) top x; high = top })
            (E.local_end upper (join (floor top free K) (roof X)) (join (floor top free K) (roof Y)) a l (λ b m r. ap (λ (p : Interval). min (cond (free b) (K b).high top) p.low) (h b m r)) (λ b m r. refl));
        mono = (raise_system S free (floor top free K) (λ c l. floor_in (free c) (w c l))).mono;
        bounded = (raise_system S free (floor top free K) (λ c l. floor_in (free c) (w c l))).bounded;
      }
  half_system lower K w =
      record {
        local = λ X Y a l h. ap (λ (x : ℕ). record { low = min top x; high = top })
            (E.local_end lower (mix nobody X K) (mix nobody Y K) a l (λ b m r. ap (λ (p : Interval). p.low) (h b m r)) (λ b m r. refl));
        mono = (lift_system S nobody K).mono;
        bounded = (lift_system S nobody K).bounded;
      }

  -- what an evaluation computes
  pub half_at : (e : End) (K X : Assign) → AllIn n top K → ((c : ℕ) → c < n → (X c).low ≤ top) → ((c : ℕ) → c < n → stays e free c ≡ true → (X c).low ≡ top)
      → (c : ℕ) → c < n → half top T free e K X c ≡ record { low = cond (stays e free c) top (end_of e (T (given free e K X) c)); high = top }
  unfolding roof
  half_at upper K X w v f c l = raise_at S free K X (λ b m. floor_in (free b) (w b m)) v f c l
  half_at lower K X w v f c l = lift_at S nobody K X (λ b m f. (w b m).high_in) (λ b m. omega (arith, v b m)) c l

  -- an end of T rises with the ends, while the others stay
  pub end_mono : (e : End) (I J : Assign) → ((b : ℕ) → b < n → end_of (other e) (I b) ≡ end_of (other e) (J b)) → ((b : ℕ) → b < n → end_of e (I b) ≤ end_of e (J b))
      → (c : ℕ) → c < n → end_of e (T I c) ≤ end_of e (T J c)
  end_mono upper I J o v c l = (S.mono J I (λ b m. record { lows = omega (arith, o b m); highs = v b m }) c l).highs
  end_mono lower I J o v c l = (S.mono I J (λ b m. record { lows = v b m; highs = omega (arith, o b m) }) c l).lows

  module _ (e : End) (K : Assign) (w : AllIn n top K) where
    abbrev U : Assign → ℕ → Interval
    U = half top T free e K

    abbrev P : Assign
    P = lfp n top (half top T free e K)

    -- K, with the ends settled
    abbrev Z : Assign
    Z = settled_all e n top T free K

    O : Operator n top (half top T free e K)
    O = operator (half_system e K w)

    goal_high : (c : ℕ) → c < n → (P c).high ≡ top
    goal_high c l = ap (λ (p : Interval). p.high) (lfp_fixed O c l) ∙ half_high top T free e K P c

    goal_stays : (c : ℕ) → c < n → stays e free c ≡ true → (P c).low ≡ top
    goal_stays c l f = ap (λ (p : Interval). p.low) (lfp_fixed O c l) ∙ half_stays top T free e K P c f

    -- T makes the settled ends of themselves, but for those that stay
    pub settled_fixed : (c : ℕ) → c < n → stays e free c ≡ false → end_of e (T Z c) ≡ settled_end e n top T free K c
    settled_fixed c l f =
        ap (end_of e) (S.local Z (given free e K P) c l (λ b m r. sym (settled_given n top T free e K b)))
        ∙ sym (cond_false top (end_of e (T (given free e K P) c)) f)
        ∙ sym (ap (λ (p : Interval). p.low) (lfp_fixed O c l ∙ half_at e K P w (λ b m. (lfp_within O b m).low_in) goal_stays c l))
        ∙ settled_is n top T free e K c f

    -- what lies under what the ends come to, T keeps there
    pub below_T : (I : Assign) → ((c : ℕ) → c < n → end_of (other e) (I c) ≡ end_of (other e) (K c)) → ((c : ℕ) → c < n → end_of e (I c) ≤ settled_end e n top T free K c)
        → (c : ℕ) → c < n → (stays e free c ≡ true → end_of e (T Z c) ≤ end_of e (K c)) → end_of e (T I c) ≤ settled_end e n top T free K c
    below_T I o v c l k =
        let q : end_of e (T I c) ≤ end_of e (T Z c) = end_mono e I Z (λ b m. o b m ∙ sym (settled_other n top T free e K b)) v c l in
        by_bool (stays e free c) (λ f. omega (arith, q, k f, settled_stays n top T free e K c f)) (λ f. omega (arith, q, settled_fixed c l f))

    -- where T makes no more of what is reached than it holds, the ends are there
    module _ {reached : ℕ → Bool} (shut : DependencyClosed n names reached) (I : Assign) (o : (c : ℕ) → c < n → end_of (other e) (I c) ≡ end_of (other e) (K c))
        (k : (c : ℕ) → c < n → stays e free c ≡ true → end_of e (I c) ≡ end_of e (K c))
        (v : (c : ℕ) → c < n → end_of e (I c) ≤ settled_end e n top T free K c) (rests : (c : ℕ) → c < n → reached c ≡ true → end_of e (T I c) ≤ end_of e (I c)) where
      -- the ends held where a condition is reached, and what they come to elsewhere
      abbrev held_end : ℕ → ℕ
      held_end c = cond (stays e free c) top (end_of e (I c))

      abbrev J : Assign
      J c = record { low = cond (reached c) (cond (stays e free c) top (end_of e (I c))) (P c).low; high = top }

      held_under : (c : ℕ) → c < n → held_end c ≤ (P c).low
      held_under c l =
          by_bool (stays e free c) (λ f. omega (arith, cond_true top (end_of e (I c)) f, goal_stays c l f))
          (λ f. omega (arith, cond_false top (end_of e (I c)) f, v c l, settled_is n top T free e K c f))

      J_under : (c : ℕ) → c < n → (J c).low ≤ (P c).low
      J_under c l =
          by_bool (reached c) (λ r. omega (arith, cond_true (held_end c) (P c).low r, held_under c l))
          (λ r. omega (arith, cond_false (held_end c) (P c).low r))

      J_in : (c : ℕ) → c < n → (J c).low ≤ top
      J_in c l = omega (arith, J_under c l, lfp_within O c l)

      J_stays : (c : ℕ) → c < n → stays e free c ≡ true → (J c).low ≡ top
      J_stays c l f =
          by_bool (reached c) (λ r. cond_true (held_end c) (P c).low r ∙ cond_true top (end_of e (I c)) f)
          (λ r. cond_false (held_end c) (P c).low r ∙ goal_stays c l f)

      -- what K is given at a reached condition is what I holds
      plainly : (g : End) (X : Assign) (b : ℕ) → ((f : stays g free b ≡ true) → end_of g (I b) ≡ end_of g (K b)) → (X b).low ≡ cond (stays g free b) top (end_of g (I b))
          → end_of g (given free g K X b) ≡ end_of g (I b)
      plainly upper X b h q =
          by_bool (free b) (λ f. cond_true (K b).high (X b).low f ∙ sym (h f)) (λ f. cond_false (K b).high (X b).low f ∙ q ∙ cond_false top (I b).high f)
      plainly lower X b h q = q

      otherwise : (g : End) (X : Assign) (b : ℕ) → end_of (other g) (given free g K X b) ≡ end_of (other g) (K b)
      otherwise upper X b = refl
      otherwise lower X b = refl

      J_now : (c : ℕ) → c < n → reached c ≡ true → stays e free c ≡ false → (U J c).low ≡ end_of e (T I c)
      J_now c l r f =
          ap (λ (p : Interval). p.low) (half_at e K J w J_in J_stays c l) ∙ cond_false top (end_of e (T (given free e K J) c)) f
          ∙ E.local_end e (given free e K J) I c l (λ b m g. plainly e J b (k b m) (cond_true (held_end b) (P b).low (shut c b l m r (E.named false c b g))))
          (λ b m g. otherwise e J b ∙ sym (o b m))

      J_over : (c : ℕ) → c < n → Under (U J c) (J c)
      J_over c l =
          record {
            lows = by_bool (stays e free c) (λ f. omega (arith, half_stays top T free e K J c f, J_stays c l f))
                (λ f. by_bool (reached c) (λ r. omega (arith, J_now c l r f, rests c l r, cond_true (held_end c) (P c).low r, cond_false top (end_of e (I c)) f))
                (λ r. omega (
                  arith,
                  (O.mono J P (λ b m. record { lows = J_under b m; highs = omega (arith, goal_high b m) }) c l).lows,
                  ap (λ (p : Interval). p.low) (lfp_fixed O c l),
                  cond_false (held_end c) (P c).low r,
                )));
            highs = omega (arith, half_high top T free e K J c);
          }

      pub settled_at : (c : ℕ) → c < n → reached c ≡ true → end_of e (I c) ≡ settled_end e n top T free K c
      settled_at c l r =
          by_bool (stays e free c) (λ f. k c l f ∙ sym (settled_stays n top T free e K c f))
          (λ f. omega (
            arith,
            (lfp_under O J (λ b m. record { low_in = J_in b m; high_in = omega arith }) J_over c l).lows,
            cond_true (held_end c) (P c).low r,
            cond_false top (end_of e (I c)) f,
            v c l,
            settled_is n top T free e K c f,
          ))

  -- The ends of what is reached come to the same over other ends that are the same wherever a reached condition negates them, and over the
  -- same ends that stay.
  module _ {reached : ℕ → Bool} (shut : DependencyClosed n names reached) (e : End) (L M : Assign)
      (same : (a b : ℕ) → a < n → b < n → reached a ≡ true → reads true a b ≡ true → end_of (other e) (L b) ≡ end_of (other e) (M b))
      (keep : (b : ℕ) → b < n → reached b ≡ true → stays e free b ≡ true → end_of e (L b) ≡ end_of e (M b)) where
    half_alike : (g : End) → ((a b : ℕ) → a < n → b < n → reached a ≡ true → reads true a b ≡ true → end_of (other g) (L b) ≡ end_of (other g) (M b))
        → ((b : ℕ) → b < n → reached b ≡ true → stays g free b ≡ true → end_of g (L b) ≡ end_of g (M b))
        → (X Y : Assign) → Alike n reached X Y → Alike n reached (half top T free g L X) (half top T free g M Y)
    unfolding raise roof lift
    half_alike upper g k X Y h c l r =
        ap (λ (x : ℕ). record { low = cond (free c) top x; high = top })
        (E.local_end upper (join (floor top free L) (roof X)) (join (floor top free M) (roof Y)) c l
        (λ b m f. let a = shut c b l m r (E.named false c b f) in ap₂ min (cond_eq (free b) (λ t. k b m a t) (λ t. refl)) (ap (λ (p : Interval). p.low) (h b m a)))
        (λ b m f. ap (λ (x : ℕ). max x 0) (g c b l m r f)))
    half_alike lower g k X Y h c l r =
        ap (λ (x : ℕ). record { low = min top x; high = top })
        (E.local_end lower (mix nobody X L) (mix nobody Y M) c l
        (λ b m f. ap (λ (p : Interval). p.low) (h b m (shut c b l m r (E.named false c b f)))) (λ b m f. g c b l m r f))

    pub settled_alike : (c : ℕ) → c < n → reached c ≡ true → settled_end e n top T free L c ≡ settled_end e n top T free M c
    settled_alike c l r =
        by_bool (stays e free c) (λ f. settled_stays n top T free e L c f ∙ keep c l r f ∙ sym (settled_stays n top T free e M c f))
        (λ f. sym (settled_is n top T free e L c f) ∙ ap (λ (p : Interval). p.low) (lfp_alike top (half top T free e L) (half top T free e M) (half_alike e same keep) c l r)
        ∙ settled_is n top T free e M c f)

  -- over the same ends everywhere
  module _ (e : End) (L M : Assign) (g : (b : ℕ) → b < n → end_of (other e) (L b) ≡ end_of (other e) (M b)) (k : (b : ℕ) → b < n → stays e free b ≡ true → end_of e (L b) ≡ end_of e (M b)) where
    pub settled_others : (c : ℕ) → c < n → settled_end e n top T free L c ≡ settled_end e n top T free M c
    settled_others c l = settled_alike {reached = λ b. true} (λ a b k m r f. refl) e L M (λ a b k m r f. g b m) (λ b m r f. k b m f) c l refl

    pub settled_T : (c : ℕ) → c < n → T (settled_all e n top T free L) c ≡ T (settled_all e n top T free M) c
    settled_T c l =
        S.local (settled_all e n top T free L) (settled_all e n top T free M) c l
        (λ b m r. ends_eq e _ _ (settled_others b m) (settled_other n top T free e L b ∙ g b m ∙ sym (settled_other n top T free e M b)))
