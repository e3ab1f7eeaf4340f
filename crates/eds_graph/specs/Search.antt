-- A search of all circles, in which the numbers that are open lie in parts, each on top of those that lead to it.
use Rattle.std.specs.Prelude.{◌≡◌, ◌<◌, ◌≤◌, ℕ, suc, ◌+◌, List, [], ◌∷◌, ◌++◌, length, replicate, Bool, true, false, Option, Some, None, slice_get, ◌⊎◌}
use Rattle.eds_graph.specs.declared.course.Course.{Course}
use Rattle.eds_graph.specs.declared.course.Course.TheVariants.{OnCircle, ToCircle, Ends}
use Rattle.eds_graph.specs.declared.search.Part.{Part}
use Rattle.eds_graph.specs.declared.search.State.{State}
use Rattle.eds_graph.specs.declared.search.State.TheVariants.{New, Open, Done}
use Rattle.eds_graph.specs.Ways.{children, leads, course, larger}

-- ---- what is known of a number

-- a number past the last leads to nothing
abbrev pub state_by : Option State → State
state_by None = Done (Ends 1)
state_by (Some s) = s

-- the state of a number; one past the end is done
abbrev pub state : List State → ℕ → State
state states a = state_by (slice_get states a)

-- all that is asked of the number is known
abbrev pub is_done : State → Bool
is_done New = false
is_done (Open p) = false
is_done (Done c) = true

-- the course that a state tells
abbrev pub course_in : State → Course
course_in New = ToCircle
course_in (Open p) = ToCircle
course_in (Done c) = c

-- the course of a number on no circle, after what is known of some that it leads to and of one more
abbrev pub join : Course → Course → Course
join OnCircle c = ToCircle
join ToCircle c = ToCircle
join (Ends n) OnCircle = ToCircle
join (Ends n) ToCircle = ToCircle
join (Ends n) (Ends m) = Ends (larger n (suc m))

-- the course of a number by those of what it leads to
abbrev pub join_all : List State → Course → List ℕ → Course
join_all states known [] = known
join_all states known (a ∷ rest) = join_all states (join known (course_in (state states a))) rest

-- ---- lists

-- one of some
abbrev pub Has : List ℕ → ℕ → Type 0
Has [] a = ⊥
Has (x ∷ xs) a = (x ≡ a) ⊎ Has xs a

-- a lies on top of p others
abbrev pub At : List ℕ → ℕ → ℕ → Type 0
At [] p a = ⊥
At (x ∷ xs) p a = ((p ≡ length xs) × (x ≡ a)) ⊎ At xs p a

-- ---- parts

-- some open numbers that lead to each other, and numbers to which they lead and at which was not looked yet
pub record Segment : Type 0 where
  pub members : List ℕ
  pub waiting : List ℕ
  -- whether they were seen to lie on a circle
  pub circle : Bool

-- the numbers of all segments
abbrev pub members_of : List Segment → List ℕ
members_of [] = []
members_of (s ∷ below) = s.members ++ members_of below

-- what all segments still wait for
abbrev pub waiting_of : List Segment → List ℕ
waiting_of [] = []
waiting_of (s ∷ below) = s.waiting ++ waiting_of below

-- how many members and waiting numbers lie under a segment
abbrev pub part_of : Segment → List Segment → Part
part_of s below = record { first = length (members_of below); waiting = length (waiting_of below); circle = s.circle }

-- the parts of all segments
abbrev pub parts_of : List Segment → List Part
parts_of [] = []
parts_of (s ∷ below) = part_of s below ∷ parts_of below

module _ (g : List (List ℕ)) (states : List State) where
  -- What a number leads to is done, or waits, or is open in its own segment, which then was seen to be a circle, or above.
  abbrev pub IsSeen : List ℕ → Segment → ℕ → Type 0
  IsSeen above s c = (is_done (state states c) ≡ true) ⊎ (Has s.waiting c ⊎ ((Has s.members c × (s.circle ≡ true)) ⊎ Has above c))

  -- a segment, with those above it and those below
  pub record IsSegment (above : List ℕ) (s : Segment) (below : List Segment) : Type 0 where
    -- each member leads to each other one
    pub strong : (a b : ℕ) → Has s.members a → Has s.members b → (a ≡ b) ⊎ (leads g a b ≡ true)
    -- where its members were seen to lie on a circle, each leads to itself
    pub ring : s.circle ≡ true → (a : ℕ) → Has s.members a → leads g a a ≡ true
    -- where no circle was seen, it has one member at most
    pub alone : s.circle ≡ false → (a b : ℕ) → Has s.members a → Has s.members b → a ≡ b
    -- each number of the segments below leads to each member
    pub under : (a b : ℕ) → Has (members_of below) a → Has s.members b → leads g a b ≡ true
    -- each member leads to each number that waits
    pub next : (a b : ℕ) → Has s.members a → Has s.waiting b → leads g a b ≡ true
    -- what a member leads to was seen already, or waits to be looked at
    pub seen : (a b : ℕ) → Has s.members a → Has (children g a) b → IsSeen above s b
    -- it has a member, unless no number lies below it
    pub some : (members_of below ≡ []) ⊎ (0 < length s.members)

  -- the segments are cut from the numbers above
  abbrev pub AreSegments : List ℕ → List Segment → Type 0
  AreSegments above [] = Unit {0}
  AreSegments above (s ∷ below) = IsSegment above s below × AreSegments (s.members ++ above) below

-- exactly the open numbers are in the list, each at its place
pub record AreOpen (states : List State) (open_numbers : List ℕ) : Type 0 where
  pub there : (p a : ℕ) → At open_numbers p a → state states a ≡ Open p
  pub back : (p a : ℕ) → state states a ≡ Open p → At open_numbers p a

-- what the search keeps true
pub record IsSound (g : List (List ℕ)) (states : List State) (path : List Segment) : Type 0 where
  pub long : length states ≡ length g
  pub are_open : AreOpen states (members_of path)
  pub segments : AreSegments g states [] path
  pub right : (a : ℕ) (c : Course) → state states a ≡ Done c → c ≡ course g a
  pub closed : (a : ℕ) (c : Course) → state states a ≡ Done c → (b : ℕ) → Has (children g a) b → is_done (state states b) ≡ true
  pub new : (a : ℕ) → state states a ≡ New → Has (waiting_of path) a

-- the same of the stacks that stand for the segments
pub record Sound (g : List (List ℕ)) (states : List State) (open_numbers waiting : List ℕ) (parts : List Part) : Type 0 where
  pub path : List Segment
  pub members : open_numbers ≡ members_of path
  pub waits : waiting ≡ waiting_of path
  pub cut : parts ≡ parts_of path
  pub sound : IsSound g states path

-- ---- what is left to do

-- how often numbers that are new will be put or looked at
abbrev pub fresh : List (List ℕ) → List State → ℕ
fresh [] states = 0
fresh (l ∷ ls) [] = 0
fresh (l ∷ ls) (New ∷ states) = (2 + length l) + fresh ls states
fresh (l ∷ ls) (Open p ∷ states) = fresh ls states
fresh (l ∷ ls) (Done c ∷ states) = fresh ls states

-- how many steps the search may still take
abbrev pub left_over : List (List ℕ) → List State → List ℕ → List Part → ℕ
left_over g states waiting parts = (length waiting + length parts) + fresh g states

-- Open numbers were taken from the top and are done now, all with one course.
pub record Closes (course : Course) (states : List State) (open_numbers : List ℕ) (states_after : List State) (open_after : List ℕ) : Type 0 where
  pub taken : List ℕ
  pub split : open_numbers ≡ taken ++ open_after
  pub are_open : AreOpen states_after open_after
  pub here : (a : ℕ) → Has taken a → state states_after a ≡ Done course
  pub other : (a : ℕ) → (state states_after a ≡ state states a) ⊎ Has taken a
  pub long : length states_after ≡ length states
  pub as_new : (g : List (List ℕ)) → fresh g states_after ≡ fresh g states

-- ---- the stacks

-- a number is on top of those that wait, and it waits for the topmost part
abbrev pub IsWaiting : List ℕ → List Part → ℕ → Type 0
IsWaiting [] parts next = ⊥
IsWaiting (w ∷ ws) [] next = ⊥
IsWaiting (w ∷ ws) (p ∷ ps) next = (w ≡ next) × (p.waiting ≤ length ws)

-- a place lies under the topmost part
abbrev pub IsUnder : ℕ → List Part → Type 0
IsUnder at [] = ⊥
IsUnder at (p ∷ ps) = at < p.first

-- the course of the open number on top, where its part is on a circle or the number alone
abbrev pub course_of_top : List (List ℕ) → List State → List ℕ → Bool → Course
course_of_top g states numbers true = OnCircle
course_of_top g states [] false = Ends 1
course_of_top g states (a ∷ rest) false = join_all states (Ends 1) (children g a)

-- so it begins
abbrev pub Starts : ℕ → List State → List ℕ → List ℕ → List Part → Type 0
Starts count states numbers waiting parts =
    (states ≡ replicate count New) × (numbers ≡ []) × ((a : ℕ) → a < count → Has waiting a) × (parts ≡ record { first = 0; waiting = 0; circle = false } ∷ [])
