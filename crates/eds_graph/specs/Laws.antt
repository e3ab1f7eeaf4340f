-- Laws on ways through a graph.
use Rattle.std.specs.Prelude.{◌≡◌, ℕ, ◌<◌, ◌≤◌, List, length, true, false, nat_lt}
use Rattle.eds_graph.specs.Ways.{is_met, reversed, reaches_circle, has_way, height, course, is_deeper}

-- from a number that reaches no circle a way of more than n numbers starts exactly where its height is greater
abbrev pub HeightIsLongest : Type 0
HeightIsLongest = (g : List (List ℕ)) (a n : ℕ) → reaches_circle g a ≡ false → has_way n g a ≡ nat_lt n (height g a)

-- from a number that reaches no circle no way has more numbers than its height
abbrev pub WaysEnd : Type 0
WaysEnd = (g : List (List ℕ)) (a n : ℕ) → reaches_circle g a ≡ false → height g a ≤ n → has_way n g a ≡ false

-- from a number that reaches a circle ways of any length start
abbrev pub CirclesAreEndless : Type 0
CirclesAreEndless = (g : List (List ℕ)) (a n : ℕ) → reaches_circle g a ≡ true → has_way n g a ≡ true

-- what is read off a number's course on depth is whether a way of more than n numbers starts there
abbrev pub CourseTellsDepth : Type 0
CourseTellsDepth = (g : List (List ℕ)) (a n : ℕ) → is_deeper n (course g a) ≡ has_way n g a

-- the other way round a number is met from just those that meet it
abbrev pub IsMetBackwards : Type 0
IsMetBackwards = (g : List (List ℕ)) (a b : ℕ) → b < length g → is_met (reversed g) b a ≡ is_met g a b
