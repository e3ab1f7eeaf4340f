-- Words have exactly one answer over files.
use Rattle.eds_base.specs.declared.fault.Fault.{Fault}
use Rattle.std.proofs.Common.{◌≡◌, ℕ, ◌<◌, ◌≤◌, List, [], ◌++◌, length, Bool, true, false, nat_le, inl, inr, Option, Some, None, is_some, Result, Ok, Err, refl, sym, ◌∙◌, ap, subst, ◌⊎◌, arith}
use Rattle.std.specs.Prelude.{IfSome}
use Rattle.std.specs.Option.{option_map_or}
use Rattle.std.proofs.lemmas.Bool.{cases_lt}
use Rattle.std.proofs.lemmas.List.{length-append}
use Rattle.eds_base.specs.Answering.{◌>>=◌}
use Rattle.eds_base.specs.declared.fault.Reason.TheVariants.{Trailing}
use Rattle.eds_base.specs.declared.ids.TypeId.{TypeId}
use Rattle.eds_base.specs.declared.refusal.Refusal.{Refusal}
use Rattle.eds_bits.specs.Bits.{Bits, bits_of}
use Rattle.eds_io.specs.Files.{Files}
use Rattle.eds_overlap.specs.Laws.{EmptyTypes, IsReadable, IsThere, OneCanonical, OneOutcome, PackingIsDecided}
use Rattle.eds_sheet.specs.Compiled.{SeenSheet, compiled}
use Rattle.eds_sheet.specs.Firsts.{Firsts}
use Rattle.eds_sheet.specs.Laws.{IsSound, SheetsAreSound}
use Rattle.eds_types.specs.Failing.{FailsAt, fault_at}
use Rattle.eds_types.specs.Overlap.{IsClear}
use Rattle.eds_types.specs.Packing.{PackFailsAt, PackFault, most_bits, pack_fault_at}
use Rattle.eds_types.specs.Plain.{Plain}
use Rattle.eds_types.specs.Rules.{IsHollow}
use Rattle.eds_types.specs.Spelling.{Canon, Spells}
use Rattle.eds_unpack.specs.Pieces.{OneCut}
use Rattle.eds_unpack.specs.Splitting.{IsFraming}
use Rattle.eds_unpack.proofs.Fronts.{readable}
use Rattle.eds_value.specs.declared.fail.ValueFail.{ValueFail}
use Rattle.eds_value.specs.Json.{value_in}
use Rattle.eds_value.specs.JsonOfValue.{json_text}
use Rattle.eds_cmd.specs.declared.command.Verb.{Verb}
use Rattle.eds_cmd.specs.declared.command.Verb.TheVariants.{Unpack, Pack, Split}
use Rattle.eds_cmd.specs.declared.status.Status.{Status}
use Rattle.eds_cmd.specs.declared.status.Status.TheVariants as statuses
use Rattle.eds_cmd.specs.declared.status.What.TheVariants as what
use Rattle.eds_cmd.specs.declared.stop.Stop.{Stop}
use Rattle.eds_cmd.specs.Answer.{AnswersBy, AnswersCommand, AnswersFew, AnswersWords, DoesBy, DoesOn, IsPast, IsWithin, Works, accepted, input_for, or_refused, sheet_files}
use Rattle.eds_cmd.specs.Command.{CommandWords, JobWords, TaskWords, WorkWords, by_type, check, command_of, demo_of, layout, on_input, replay, run, runs_script, task_type, type_name_of, work_type}
use Rattle.eds_cmd.specs.Demonstrated.{IsDemonstrated}
use Rattle.eds_cmd.specs.Laws.{OneAnswer, SomeAnswer}
use Rattle.eds_cmd.specs.Limits.{report_octets, sheet_count}
use Rattle.eds_cmd.specs.Pack.{PacksGiven, PacksValue, packed_report}
use Rattle.eds_cmd.specs.Reports.{bits_report, counts_line, usage_line}
use Rattle.eds_cmd.specs.Run.{HasPlan}
use Rattle.eds_cmd.specs.Split.{framing_of}
use Rattle.eds_cmd.specs.Stops.{IsStop, frame_fault, limited, pack_fault, status_of}
use Rattle.eds_cmd.specs.Target.{TypeIn, type_of}
use Rattle.eds_cmd.specs.Unpack.{Begins, UnpacksBits, UnpacksFrame, frame_for}
use Rattle.eds_cmd.proofs.Reporting.{not_done}
use Rattle.eds_cmd.proofs.OneDemonstration.{one_demonstration}
use Rattle.eds_cmd.proofs.OneLayout.{LayoutLaws, one_of_layout, some_of_layout}
use Rattle.eds_cmd.proofs.SheetReplays.{SessionLaws, one_of_session, some_of_session}
use Rattle.eds_cmd.proofs.SheetRuns.{ScriptLaws, one_of_sheet, some_of_sheet}
use Rattle.eds_cmd.proofs.Splitting.{framing_for, one_way, some_way}

-- the laws of values and bits, of layouts, of runs and of replays
pub record ValueLaws : Type 0 where
  pub outcome : OneOutcome
  pub canonical : OneCanonical
  pub packing : PackingIsDecided
  pub empty : EmptyTypes
  pub cut : OneCut
  pub layouts : LayoutLaws
  pub scripts : ScriptLaws
  pub sessions : SessionLaws

-- a stop ends a command as itself
itself : (stop : Stop) → IsStop stop (status_of stop.cause) stop.report
itself stop = record { status_is = refl; report_is = refl }

-- what is said holds of one status and report at most
abbrev IsOfOne : (Status → List ℕ → Type 0) → Type 0
IsOfOne Says = (status other : Status) (report line : List ℕ) → Says status report → Says other line → (status ≡ other) × (report ≡ line)

-- what is said holds of a report of what is done, or of a stop
abbrev IsOfSome : (Status → List ℕ → Type 0) → Type 0
IsOfSome Says = ((report : List ℕ) × Says statuses.Done report) ⊎ ((stop : Stop) × Says (status_of stop.cause) stop.report)

one_stop : (stop : Stop) → IsOfOne (IsStop stop)
one_stop stop status other report line a b = (a.status_is ∙ sym b.status_is, a.report_is ∙ sym b.report_is)

some_stop : (stop : Stop) → IsOfSome (IsStop stop)
some_stop stop = inr (stop, itself stop)

-- ---- a value by a type

module _ (laws : ValueLaws) (type : TypeIn) (is : IsReadable type.table type.id) (solid : IsHollow type.table type.id → ⊥) where
  abbrev frame_stop : Fault → Stop
  frame_stop g = frame_fault type.table g.reason g.path

  abbrev pack_stop : PackFault → Stop
  pack_stop g = pack_fault type.table g.reason g.path

  there : IsThere type.table type.id
  there = record { rules = is.rules; there = is.there }

  -- the bits begin with one value, so one number of bits follows it
  one_rest : (v w : Plain) (c d x y bits : Bits) → Begins type v c x bits → Begins type w d y bits → length x ≡ length y
  one_rest v w c d x y bits a b =
      let one = (laws.outcome type.table type.id is bits).one_value v w c d x y a.split b.split a.spelled b.spelled in
      omega (arith, ap length a.split, ap length b.split, length-append c x, length-append d y, ap length one.1)

  apart : (v w : Plain) (c d x y bits : Bits) → Begins type v c x bits → Begins type w d y bits → length x ≤ 7 → 8 ≤ length y → ⊥
  apart v w c d x y bits a b few many = let one = one_rest v w c d x y bits a b in omega (arith, one, few, many)

  not_both : (v : Plain) (c x bits : Bits) (g : Fault) → Begins type v c x bits → FailsAt type.table type.id bits g → ⊥
  not_both v c x bits g b fails = (laws.outcome type.table type.id is bits).not_both v c x g b.split b.spelled fails

  one_of_bits : (bits : Bits) → IsOfOne (UnpacksBits type bits)
  one_of_bits bits s o r l (inl u) (inl w) =
      let one = (laws.outcome type.table type.id is bits).one_value u.value w.value u.front w.front u.rest w.rest u.begins.split w.begins.split u.begins.spelled w.begins.spelled in
      (u.status_is ∙ sym w.status_is, rw (u.report_is, w.report_is, one.0, one.1) refl)
  one_of_bits bits s o r l (inl u) (inr (inl t)) = absurd (apart u.value t.value u.front t.front u.rest t.rest bits u.begins t.begins u.few t.many)
  one_of_bits bits s o r l (inl u) (inr (inr f)) = absurd (not_both u.value u.front u.rest bits (fault_at f.reason f.path) u.begins f.fails)
  one_of_bits bits s o r l (inr (inl t)) (inl u) = absurd (apart u.value t.value u.front t.front u.rest t.rest bits u.begins t.begins u.few t.many)
  one_of_bits bits s o r l (inr (inl t)) (inr (inl u)) = one_stop _ s o r l t.stop u.stop
  one_of_bits bits s o r l (inr (inl t)) (inr (inr f)) = absurd (not_both t.value t.front t.rest bits (fault_at f.reason f.path) t.begins f.fails)
  one_of_bits bits s o r l (inr (inr f)) (inl u) = absurd (not_both u.value u.front u.rest bits (fault_at f.reason f.path) u.begins f.fails)
  one_of_bits bits s o r l (inr (inr f)) (inr (inl t)) = absurd (not_both t.value t.front t.rest bits (fault_at f.reason f.path) t.begins f.fails)
  one_of_bits bits s o r l (inr (inr f)) (inr (inr g)) =
      let one = (laws.outcome type.table type.id is bits).one_place (fault_at f.reason f.path) (fault_at g.reason g.path) f.fails g.fails in
      one_stop (frame_stop (fault_at g.reason g.path)) s o r l (subst (λ w. IsStop (frame_stop w) s r) one f.stop) g.stop

  some_of_bits : (bits : Bits) → IsOfSome (UnpacksBits type bits)
  some_of_bits bits = go (laws.outcome type.table type.id is bits).either
    where
      go : (((v : Plain) × (c : Bits) × (rest : Bits) × (bits ≡ c ++ rest) × Spells type.table type.id v c) ⊎ ((g : Fault) × FailsAt type.table type.id bits g)) → IsOfSome (UnpacksBits type bits)
      go (inl k) =
          let begins : Begins type k.0 k.1 k.2 bits = record { split = k.3; spelled = k.4 } in
          elim (cases_lt 7 (length k.2)) [
            | inl many ↦ let stop = frame_fault type.table Trailing [] in
                inr (stop, inr (inl (record { value = k.0; front = k.1; rest = k.2; begins = begins; many = omega (arith, many); stop = itself stop })))
            | inr few ↦ inl (bits_report (json_text type.table k.0) (length k.1), inl (record { value = k.0; front = k.1; rest = k.2; begins = begins; few = few; status_is = refl; report_is = refl }))
          ]
      go (inr k) = let stop = frame_stop k.0 in inr (stop, inr (inr (record { reason = (k.0).reason; path = (k.0).path; fails = k.1; stop = itself stop })))

  one_of_frame : (frame : Result (List ℕ) Stop) → IsOfOne (UnpacksFrame type frame)
  one_of_frame (Ok frame) = one_of_bits (bits_of frame)
  one_of_frame (Err stop) = one_stop stop

  some_of_frame : (frame : Result (List ℕ) Stop) → IsOfSome (UnpacksFrame type frame)
  some_of_frame (Ok frame) = some_of_bits (bits_of frame)
  some_of_frame (Err stop) = some_stop stop

  one_of_value : (value : Plain) → IsOfOne (PacksValue type value)
  one_of_value value s o r l (inl p) (inl q) =
      let one = laws.canonical type.table type.id there value p.bits q.bits p.canonical q.canonical in
      (p.status_is ∙ sym q.status_is, p.report_is ∙ ap packed_report one ∙ sym q.report_is)
  one_of_value value s o r l (inl p) (inr f) = absurd ((laws.packing type.table type.id there value).not_both p.bits (pack_fault_at f.reason f.path) p.canonical p.within f.fails)
  one_of_value value s o r l (inr f) (inl p) = absurd ((laws.packing type.table type.id there value).not_both p.bits (pack_fault_at f.reason f.path) p.canonical p.within f.fails)
  one_of_value value s o r l (inr f) (inr g) =
      let one = (laws.packing type.table type.id there value).one_place (pack_fault_at f.reason f.path) (pack_fault_at g.reason g.path) f.fails g.fails in
      one_stop (pack_stop (pack_fault_at g.reason g.path)) s o r l (subst (λ w. IsStop (pack_stop w) s r) one f.stop) g.stop

  some_of_value : (value : Plain) → IsOfSome (PacksValue type value)
  some_of_value value = go (laws.packing type.table type.id there value).either
    where
      go : (((b : Bits) × Canon type.table type.id value b × (length b ≤ most_bits)) ⊎ ((g : PackFault) × PackFailsAt type.table type.id value g)) → IsOfSome (PacksValue type value)
      go (inl k) = inl (packed_report k.0, inl (record { bits = k.0; canonical = k.1; within = k.2; status_is = refl; report_is = refl }))
      go (inr k) = let stop = pack_stop k.0 in inr (stop, inr (record { reason = (k.0).reason; path = (k.0).path; fails = k.1; stop = itself stop }))

  one_of_given : (value : Result Plain ValueFail) → IsOfOne (PacksGiven type value)
  one_of_given (Ok value) = one_of_value value
  one_of_given (Err fail) = one_stop _

  some_of_given : (value : Result Plain ValueFail) → IsOfSome (PacksGiven type value)
  some_of_given (Ok value) = some_of_value value
  some_of_given (Err fail) = some_stop _

  framing : IsFraming (framing_of type)
  framing = framing_for laws.empty type is.rules (record { there = is.there; clear = is.clear; solid = solid })

  one_of_work : (verb : Verb) (input : List ℕ) → IsOfOne (Works verb type input)
  one_of_work Unpack input = one_of_frame (frame_for input)
  one_of_work Pack input = one_of_given (value_in type.table type.id input)
  one_of_work Split input = one_way laws.cut type framing input

  some_of_work : (verb : Verb) (input : List ℕ) → IsOfSome (Works verb type input)
  some_of_work Unpack input = some_of_frame (frame_for input)
  some_of_work Pack input = some_of_given (value_in type.table type.id input)
  some_of_work Split input = some_way laws.cut type framing input

-- ---- an accepted sheet

-- the type that a word names in a sheet has no spelling of no bits
word_solid : (word : List ℕ) (sheet : SeenSheet) → IsSound (Some word) sheet → IsHollow (type_of sheet).table (type_of sheet).id → ⊥
word_solid word sheet s = go sheet.asked_type s.asked s.solid
  where
    go : (w : Option TypeId) → is_some w ≡ true → IfSome w (λ id. IsHollow sheet.table id.0 → ⊥) → IsHollow sheet.table (option_map_or (λ id. id.0) w 0) → ⊥
    go (Some id) asked solid = solid
    go None asked solid = absurd (cc asked)

-- the type that a word names in a sheet can be read
word_readable : (word : List ℕ) (sheet : SeenSheet) → IsSound (Some word) sheet → IsReadable (type_of sheet).table (type_of sheet).id
word_readable word sheet s = go sheet.asked_type s.asked s.named s.clear
  where
    id_of : Option TypeId → ℕ
    id_of w = option_map_or (λ id. id.0) w 0

    go : (w : Option TypeId) → is_some w ≡ true → IfSome w (λ id. id.0 < length sheet.table) → IfSome w (λ id. IsClear sheet.table id.0) → IsReadable sheet.table (id_of w)
    go (Some id) asked named clear = readable sheet.table id.0 s.rules clear named
    go None asked named clear = absurd (cc asked)

-- an accepted sheet is sound
accepted_sound : SheetsAreSound → (firsts : Firsts) (files : Files) (c : CommandWords) (sheet : SeenSheet) → accepted firsts files c ≡ Ok sheet → IsSound (type_name_of c) sheet
accepted_sound sound firsts files c sheet is = go (sheet_files files 0 c.sheets) is
  where
    unrefused : (r : Result SeenSheet Refusal) → or_refused r ≡ Ok sheet → r ≡ Ok sheet
    unrefused (Ok found) e = cc e
    unrefused (Err refusal) e = absurd (cc e)

    go : (read : Result (List (List ℕ)) Stop) → (read >>= λ octets. or_refused (compiled firsts octets (type_name_of c))) ≡ Ok sheet → IsSound (type_name_of c) sheet
    go (Ok octets) e = sound firsts octets (type_name_of c) sheet (unrefused (compiled firsts octets (type_name_of c)) e)
    go (Err stop) e = absurd (cc e)

-- ---- a task by an accepted sheet

-- where a task is to run a script over the components of a sheet, there is a plan of these
abbrev pub HasPlanFor : TaskWords → SeenSheet → Type 0
HasPlanFor task sheet = runs_script task ≡ true → HasPlan sheet

module _ (laws : ValueLaws) (sheet : SeenSheet) where
  one_of_task : (task : TaskWords) (input : Result (List ℕ) Stop) → IsSound (task_type task) sheet → IsOfOne (DoesOn task sheet input)
  one_of_task (by_type verb name) (Ok input) sound = one_of_work laws (type_of sheet) (word_readable name sheet sound) (word_solid name sheet sound) verb input
  one_of_task run (Ok input) sound = one_of_sheet laws.scripts sheet sound input
  one_of_task replay (Ok input) sound = one_of_session laws.sessions sheet sound input
  one_of_task task (Err stop) sound = one_stop stop

  some_of_task : (task : TaskWords) (input : Result (List ℕ) Stop) → IsSound (task_type task) sheet → HasPlanFor task sheet → IsOfSome (DoesOn task sheet input)
  some_of_task (by_type verb name) (Ok input) sound has = some_of_work laws (type_of sheet) (word_readable name sheet sound) (word_solid name sheet sound) verb input
  some_of_task run (Ok input) sound has = some_of_sheet laws.scripts sheet sound input (has refl)
  some_of_task replay (Ok input) sound has = some_of_session laws.sessions sheet sound input (has refl)
  some_of_task task (Err stop) sound has = some_stop stop

-- ---- the answer

-- the same of a work, where it is on an input
abbrev pub HasPlanIn : WorkWords → SeenSheet → Type 0
HasPlanIn work sheet = (j : JobWords) → work ≡ on_input j → HasPlanFor j.task sheet

module _ (laws : ValueLaws) (files : Files) where
  one_by_sheet : (work : WorkWords) (sheet : SeenSheet) → IsSound (work_type work) sheet → IsOfOne (DoesBy work files sheet)
  one_by_sheet check sheet sound s o r l a b = (a.status_is ∙ sym b.status_is, a.report_is ∙ sym b.report_is)
  one_by_sheet (layout type_name) sheet sound s o r l a b = one_of_layout laws.layouts (type_of sheet) s o r l a b
  one_by_sheet (on_input job) sheet sound s o r l a b = one_of_task laws sheet job.task (input_for files job) sound s o r l a b

  some_by_sheet : (work : WorkWords) (sheet : SeenSheet) → IsSound (work_type work) sheet → HasPlanIn work sheet → IsOfSome (DoesBy work files sheet)
  some_by_sheet check sheet sound has = inl (counts_line sheet.counts, record { status_is = refl; report_is = refl })
  some_by_sheet (layout type_name) sheet sound has = inl (some_of_layout laws.layouts (type_of sheet) sound.rules)
  some_by_sheet (on_input job) sheet sound has = some_of_task laws sheet job.task (input_for files job) sound (has job refl)

  -- a report isn't both within its limit and past it
  not_past : (work : WorkWords) (sheet : SeenSheet) → IsSound (work_type work) sheet → (s o : Status) (r l : List ℕ) → IsWithin work files sheet s r → IsPast work files sheet o l → ⊥
  not_past work sheet sound s o r l w p =
      let one = one_by_sheet work sheet sound s statuses.Done r p.whole w.does p.does in
      omega (arith, w.within one.0, p.past, ap length one.1)

  one_by : (work : WorkWords) (sheet : Result SeenSheet Stop) → ((found : SeenSheet) → sheet ≡ Ok found → IsSound (work_type work) found) → IsOfOne (AnswersBy work files sheet)
  one_by work (Ok sheet) sound s o r l (inl w) (inl x) = one_by_sheet work sheet (sound sheet refl) s o r l w.does x.does
  one_by work (Ok sheet) sound s o r l (inl w) (inr p) = absurd (not_past work sheet (sound sheet refl) s o r l w p)
  one_by work (Ok sheet) sound s o r l (inr p) (inl w) = absurd (not_past work sheet (sound sheet refl) o s l r w p)
  one_by work (Ok sheet) sound s o r l (inr p) (inr q) = one_stop _ s o r l p.stop q.stop
  one_by work (Err stop) sound s o r l a b = one_stop stop s o r l a b

  some_by : (work : WorkWords) (sheet : Result SeenSheet Stop) → ((found : SeenSheet) → sheet ≡ Ok found → IsSound (work_type work) found × HasPlanIn work found) → (status : Status) × (report : List ℕ) × AnswersBy work files sheet status report
  some_by work (Ok sheet) found = go (some_by_sheet work sheet (found sheet refl).0 (found sheet refl).1)
    where
      go : IsOfSome (DoesBy work files sheet) → (status : Status) × (report : List ℕ) × AnswersBy work files (Ok sheet) status report
      go (inl d) = elim (cases_lt report_octets (length d.0)) [
        | inl past ↦ let stop = limited what.Report report_octets in
            (status_of stop.cause, stop.report, inr (record { whole = d.0; does = d.1; past = past; stop = itself stop }))
        | inr within ↦ (statuses.Done, d.0, inl (record { does = d.1; within = λ e. within }))
      ]
      go (inr k) = (status_of k.0.cause, k.0.report, inl (record { does = k.1; within = λ e. absurd (not_done k.0.cause e) }))
  some_by work (Err stop) found = (status_of stop.cause, stop.report, itself stop)

module _ (laws : ValueLaws) (sound : SheetsAreSound) (firsts : Firsts) where
  one_of_few : (few : Bool) (c : CommandWords) (files : Files) → IsOfOne (AnswersFew firsts few c files)
  one_of_few true c files = one_by laws files c.work (accepted firsts files c) (accepted_sound sound firsts files c)
  one_of_few false c files = one_stop _

  -- the accepted sheet of a command that runs a script has a plan to run
  abbrev HasPlanOf : CommandWords → Files → Type 0
  HasPlanOf c files = (sheet : SeenSheet) → accepted firsts files c ≡ Ok sheet → HasPlanIn c.work sheet

  some_of_few : (few : Bool) (c : CommandWords) (files : Files) → HasPlanOf c files → (status : Status) × (report : List ℕ) × AnswersFew firsts few c files status report
  some_of_few true c files has = some_by laws files c.work (accepted firsts files c) (λ sheet is. (accepted_sound sound firsts files c sheet is, has sheet is))
  some_of_few false c files has = let stop = limited what.Files sheet_count in (status_of stop.cause, stop.report, itself stop)

  pub one_of_command : (c : CommandWords) (files : Files) → IsOfOne (AnswersCommand firsts c files)
  one_of_command c files s o r l a b = one_of_few (nat_le (length c.sheets) sheet_count) c files s o r l a b

  one_of_words : (c : Option CommandWords) (packets : Option ℕ) (files : Files) → IsOfOne (AnswersWords firsts c packets files)
  one_of_words (Some c) packets files s o r l a b = one_of_command c files s o r l a b
  one_of_words None (Some n) files s o r l a b = one_demonstration laws.scripts sound firsts n s o r l a b
  one_of_words None None files s o r l a b = (a.0 ∙ sym b.0, a.1 ∙ sym b.1)

  -- a demonstration that is asked for may be given
  abbrev HasDemonstrationOf : Option ℕ → Type 0
  HasDemonstrationOf packets = (n : ℕ) → packets ≡ Some n → (report : List ℕ) × IsDemonstrated firsts n statuses.Done report

  some_of_words : (c : Option CommandWords) (packets : Option ℕ) (files : Files) → ((d : CommandWords) → c ≡ Some d → HasPlanOf d files) → HasDemonstrationOf packets → (status : Status) × (report : List ℕ) × AnswersWords firsts c packets files status report
  some_of_words (Some c) packets files has demo = some_of_few (nat_le (length c.sheets) sheet_count) c files (has c refl)
  some_of_words None (Some n) files has demo = let given = demo n refl in (statuses.Done, given.0, given.1)
  some_of_words None None files has demo = (statuses.Usage, usage_line, (refl, refl))

module _ (laws : ValueLaws) (sound : SheetsAreSound) where
  pub one_answer : OneAnswer
  one_answer firsts words files s o r l a b = one_of_words laws sound firsts (command_of words) (demo_of words) files s o r l a b

  pub some_answer : SomeAnswer
  some_answer firsts words files has demo = some_of_words laws sound firsts (command_of words) (demo_of words) files (λ c is sheet found job job_is runs. has c job sheet is job_is runs found) demo
