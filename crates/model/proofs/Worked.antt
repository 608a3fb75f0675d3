-- R1 to R9: computed once for the whole table, and so of every outcome that the definition allows.
use mathlib.Core.Path.{◌≡◌, refl, sym, ap, ◌∙◌}
use mathlib.Core.Bool.{Bool, true, ◌&&◌}
use mathlib.Core.Option.{Option, none, some}
use mathlib.Core.List.{List, [], ◌∷◌, ◌++◌, map}
use Prim.Native.Nat.{ℕ, suc, ◌+◌, ◌*◌, ◌<◌}
use native.Mathlib.Omega.{arith}
use lib.Dec.{ltb}
use lib.ListN.{length, drop, length-map, get_or-append}
use borrow.Author.Tests.{ltb-true}
use Rattle.order.proofs.Trace.{and_true}
use Rattle.model.specs.Limits.{report_numbers, report_bytes}
use Rattle.model.specs.File.{number4, total, push_sizes, pop_sizes, push_bytes, schedule_at, schedule_of, Entry}
use Rattle.model.specs.Codes.{file_table, first_of, Lawful}
use Rattle.model.specs.Queue.{Shape}
use Rattle.model.specs.Run.{Result, State, first_ring, Runs, stop, move, shape_of, fresh}
use Rattle.model.specs.Report.{report_of, numbers_of, bytes_of}
use Rattle.model.specs.Outcome.{marks_of}
use Rattle.model.specs.Worked.{Stated, Worked, worked, Numbers, Bytes, Comes, AllCome}
use Rattle.model.specs.computed.Machine.{results, ends}
use Rattle.model.proofs.Laid.{lawful_code}
use Rattle.model.proofs.Some.{some_run}
use Rattle.model.proofs.One.{run_one}

-- What the computed machine gives for a row, in the row's own terms.
record Got : Type 0 where
  code : ℕ
  marks : List ℕ
  numbers : List ℕ
  bytes : Option (List ℕ)
  inside : Bool

abbrev end : Worked → State
end w = ends (shape_of w.file) (fresh w.file) (schedule_of w.file)

abbrev run : Worked → List Result
run w = results (shape_of w.file) (fresh w.file) (schedule_of w.file)

abbrev report : Worked → List ℕ
report w = bytes_of (numbers_of w.file (run w) (end w))

abbrev asked : {A : Type 0} → Option A → A → Option A
asked none b = none
asked (some a) b = some b

abbrev in_report : List Stated → Bool
in_report [] = true
in_report (s ∷ ss) = ltb s.place report_numbers && in_report ss

got : Worked → Got
got w = record {
  code = first_of (file_table w.file);
  marks = marks_of (run w);
  numbers = map (λ (s : Stated). number4 (report w) (4 * s.place)) w.numbers;
  bytes = asked w.bytes ((end w).queue first_ring).out;
  inside = in_report w.numbers;
}

want : Worked → Got
want w = record { code = 0; marks = w.marks; numbers = map (λ (s : Stated). s.value) w.numbers; bytes = w.bytes; inside = true }

computed : map got worked ≡ map want worked
unfolding got want total push_sizes pop_sizes push_bytes schedule_at schedule_of file_table report_of bytes_of
computed = refl

pub run_length : {g : Shape} {s z : State} {es : List Entry} {xs : List Result} → Runs g s es xs z → length xs ≡ length es
run_length stop = refl
run_length (move a p) = ap suc (run_length p)

-- The report's bytes

pub length-bytes_of : (ns : List ℕ) → length (bytes_of ns) ≡ 4 * length ns
unfolding bytes_of
length-bytes_of [] = refl
length-bytes_of (n ∷ ns) = let h = length-bytes_of ns in omega arith

pub length_report : (f : List ℕ) (xs : List Result) (z : State) → length (bytes_of (numbers_of f xs z)) ≡ report_bytes
unfolding report_of
length_report f xs z = length-bytes_of (numbers_of f xs z)

-- A number of the first part of a list is a number of the list.
number4_append : (l rest : List ℕ) (i : ℕ) → i + 3 < length l → number4 (l ++ rest) i ≡ number4 l i
number4_append l rest i h = cc (
  get_or-append l rest 0 i (omega arith),
  get_or-append l rest 0 (i + 1) (omega arith),
  get_or-append l rest 0 (i + 2) (omega arith),
  get_or-append l rest 0 (i + 3) (omega arith),
)

numbers_come : (ss : List Stated) (l rest : List ℕ) → length l ≡ report_bytes → in_report ss ≡ true
    → map (λ (s : Stated). number4 l (4 * s.place)) ss ≡ map (λ (s : Stated). s.value) ss → Numbers ss (l ++ rest)
numbers_come [] l rest n h e = tt
numbers_come (s ∷ ss) l rest n h e =
    let k = and_true (ltb s.place report_numbers) (in_report ss) h in
    let p = ltb-true s.place report_numbers k.0 in
    (number4_append l rest (4 * s.place) (omega arith) ∙ cc, numbers_come ss l rest n k.1 (cc))

bytes_come : (b : Option (List ℕ)) (got out out' : List ℕ) → asked b got ≡ b → out' ≡ got ++ drop (length got) out → Bytes b out out'
bytes_come none g out out' e h = tt
bytes_come (some bs) g out out' e h = let k : g ≡ bs = cc in rw k at h

come : (w : Worked) → got w ≡ want w → Comes w
unfolding got want
come w e marks out rep r marks' out' report' a b c o =
    let f = w.file in
    let law : Lawful f = ap (λ (g : Got). g.code) e in
    let em : marks_of (run w) ≡ w.marks = ap (λ (g : Got). g.marks) e in
    let ran_so = some_run (shape_of f) (fresh f) (schedule_of f) tt in
    let el : length (run w) ≡ length w.marks = sym (length-map (run w) (λ (x : Result). x.mark)) ∙ ap length em in
    let es : length (schedule_of f) ≡ length w.marks = sym (run_length ran_so) ∙ el in
    let code0 : r ≡ 0 = o.code_is ∙ lawful_code f (length marks) (length out) (length rep) law (omega arith) b c in
    let ran = o.lawful code0 in
    let k = run_one ran.run ran_so in
    let er : report' ≡ report w ++ drop report_bytes rep = ran.report_is ∙ rw (k.0, k.1) refl in (
      code0,
      ran.marks_are ∙ rw (k.0, el, em) refl,
      rw er (numbers_come w.numbers (report w) (drop report_bytes rep) (length_report f (run w) (end w)) (ap (λ (g : Got). g.inside) e) (ap (λ (g : Got). g.numbers) e)),
      bytes_come w.bytes ((end w).queue first_ring).out out out' (ap (λ (g : Got). g.bytes) e) (ran.out_is ∙ rw k.1 refl),
    )

all_come : (ws : List Worked) → map got ws ≡ map want ws → AllCome ws
all_come [] e = tt
all_come (w ∷ ws) e = (come w (cc), all_come ws (cc))

-- THE TABLE: R1 to R9 come out as document 01 says.
pub worked_runs : AllCome worked
worked_runs = all_come worked computed
