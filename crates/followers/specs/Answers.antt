-- What the answer of the call says. Assumes nothing.
use Rattle.std.specs.Prelude.{ℕ, Result, Ok, Err}
use Rattle.semantics.specs.Followers.{FollowersAnswer, refused_followers, followed_by}
use Rattle.refusal.specs.Numbers.{number_of}
use Rattle.refusal.specs.declared.Refusal.{Refusal}

-- a refusal's number, or the count
abbrev pub count_answer_of : Result ℕ Refusal → FollowersAnswer
count_answer_of (Err r) = refused_followers (number_of r)
count_answer_of (Ok k) = followed_by k
