-- Numbers that lead to numbers: a graph has, at each number, the numbers that it leads to in one step.
use Rattle.std.specs.Prelude.{ℕ, zero, suc, List, [], ◌∷◌, map, filter, length, Bool, true, false, ◌||◌, ◌&&◌, ◌==◌, nat_lt, if◌then◌else◌, slice_get, unwrap_or}
use Rattle.std.specs.List.{list_any, range_with_len}
use Rattle.eds_graph.specs.declared.course.Course.{Course}
use Rattle.eds_graph.specs.declared.course.Course.TheVariants.{OnCircle, ToCircle, Ends}

-- what a number leads to in one step; a number past the last leads to nothing
abbrev pub children : List (List ℕ) → ℕ → List ℕ
children g a = unwrap_or (slice_get g a) []

-- a leads to b over one step or more, and at most n
unfoldable pub reaches : ℕ → List (List ℕ) → ℕ → ℕ → Bool
reaches zero g a b = false
reaches (suc n) g a b = list_any (λ c. (c == b) || reaches n g c b) (children g a)

-- over any number of steps: no way without a circle has more steps than there are numbers
abbrev pub leads : List (List ℕ) → ℕ → ℕ → Bool
leads g a b = reaches (length g) g a b

-- a number leads to itself
abbrev pub is_on_circle : List (List ℕ) → ℕ → Bool
is_on_circle g a = leads g a a

-- b is a, or a leads to it
abbrev pub is_met : List (List ℕ) → ℕ → ℕ → Bool
is_met g a b = (a == b) || leads g a b

-- b lies on a circle and is met from a
abbrev pub is_circle_met : List (List ℕ) → ℕ → ℕ → Bool
is_circle_met g a b = is_met g a b && is_on_circle g b

-- a number lies on a circle or leads to one that does
abbrev pub reaches_circle : List (List ℕ) → ℕ → Bool
reaches_circle g a = list_any (is_circle_met g a) (range_with_len 0 (length g))

-- b is one of some numbers, or one of them leads to it
abbrev pub is_reached : List (List ℕ) → List ℕ → ℕ → Bool
is_reached g from b = list_any (λ a. is_met g a b) from

-- ---- the other way round

-- a number is one of those that another leads to in one step
abbrev pub is_child : List (List ℕ) → (b a : ℕ) → Bool
is_child g b a = list_any (λ c. c == b) (children g a)

-- the numbers that lead to b in one step, in rising order
abbrev pub parents : List (List ℕ) → ℕ → List ℕ
parents g b = filter (is_child g b) (range_with_len 0 (length g))

-- at each number those that lead to it in one step
abbrev pub reversed : List (List ℕ) → List (List ℕ)
reversed g = map (parents g) (range_with_len 0 (length g))

-- ---- how long ways are

-- a way of n steps starts at a, so one of more than n numbers, counted with a
unfoldable pub has_way : ℕ → List (List ℕ) → ℕ → Bool
has_way zero g a = true
has_way (suc n) g a = list_any (has_way n g) (children g a)

-- the larger of two numbers
abbrev pub larger : ℕ → ℕ → ℕ
larger a b = if nat_lt a b then b else a

-- the largest that a function gives at some numbers
abbrev pub largest : (ℕ → ℕ) → List ℕ → ℕ
largest f [] = 0
largest f (a ∷ rest) = larger (f a) (largest f rest)

-- how many numbers the longest way from a has, counted with a, and at most n
unfoldable pub tall : ℕ → List (List ℕ) → ℕ → ℕ
tall zero g a = 0
tall (suc n) g a = suc (largest (tall n g) (children g a))

-- the same with no bound, where no way from a ends on a circle: such a way has each number once
abbrev pub height : List (List ℕ) → ℕ → ℕ
height g a = tall (suc (suc (length g))) g a

-- ---- all numbers at once

-- where the ways from a number go on
abbrev pub course : List (List ℕ) → ℕ → Course
course g a = if is_on_circle g a then OnCircle else if reaches_circle g a then ToCircle else Ends (height g a)

-- the same of all numbers
abbrev pub all_courses : List (List ℕ) → List Course
all_courses g = map (course g) (range_with_len 0 (length g))

-- for each number whether it is reached from some
abbrev pub all_reached : List (List ℕ) → List ℕ → List Bool
all_reached g from = map (is_reached g from) (range_with_len 0 (length g))

-- ---- what is read off a number's course

-- the number leads to itself
abbrev pub is_circular : Course → Bool
is_circular OnCircle = true
is_circular ToCircle = false
is_circular (Ends n) = false

-- the number leads to itself, or to one that does
abbrev pub is_endless : Course → Bool
is_endless OnCircle = true
is_endless ToCircle = true
is_endless (Ends n) = false

-- the longest way has more numbers than a limit, or no end
abbrev pub is_deeper : ℕ → Course → Bool
is_deeper limit OnCircle = true
is_deeper limit ToCircle = true
is_deeper limit (Ends n) = nat_lt limit n
