-- Answers of lines, one part after another, how a chunk is cut into lines, and what the steps of a run leave.
use Rattle.std.proofs.Common.{◌≡◌, ◌==◌, ◌<◌, ◌≤◌, ◌++◌, ◌∷◌, ◌∙◌, ◌⊎◌, ℕ, true, false, List, [], Option, Result}
use Rattle.std.proofs.Common.{Ok, Err, IfErr, OnErr, OnOk, is_ok, if◌then◌else◌, length, take, drop, refl, sym}
use Rattle.std.proofs.Common.{ap, arith, append_assoc, append-nil, inl, inr}
use Rattle.std.proofs.KnownBytes.{Appends-kept, Appends-nil, Appends-trans, Consumes-kept, Consumes-nil, Consumes-trans}
use Rattle.std.proofs.Math.Seq.{drop-append_seam, take-append_seam}
use Rattle.std.proofs.lemmas.Bool.{cases_Bool, cases_lt, eqb-true, false≢true}
use Rattle.std.proofs.lemmas.Grind.{flat_map-append}
use Rattle.std.proofs.lemmas.List.{drop-append-le, length-append, take-append-drop, take-append-le}
use Rattle.std.proofs.lemmas.List.Folds.{list_all-append}
use Rattle.std.specs.Prelude.{⊤}
use Rattle.std.specs.Io.KnownBytes.{Appends, Consumes, IsAtEnd}
use Rattle.std.specs.List.{AllZip, flat_map, list_all}
use Rattle.std.specs.declared.alloc.AllocError.{AllocError}
use Rattle.semver_answers.specs.Answers.{Answers, IsAnswer}
use Rattle.semver_answers.specs.Internal.Steps.{AnswersFront, Finished, GrowsByAnswer, Stopped, Taken}
use Rattle.semver_answers.specs.Internal.Steps.{Told, Took, Turned, WritesFront}
use Rattle.semver_answers.specs.Internal.Ahead.{HasFeed, behind_line, first_line}
use Rattle.semver_answers.specs.Lines.{HasLines, ended, last_line, no_feed}
use Rattle.semver_answers.specs.Outcome.{AnswersTorn, Ran, Writes}
use Rattle.semver_answers.specs.declared.run.RunFault.{RunFault}
use Rattle.semver_answers.specs.declared.run.RunFault.TheVariants.{Memory, Read, Write}
use Rattle.semver_answers.proofs.Firsts.{divided}

-- two lists and what follows them, place by place
pub AllZip-append : {A B : Type 0} (R : A → B → Type 0) (xs ys : List A) (vs ws : List B) → AllZip R xs vs → AllZip R ys ws
    → AllZip R (xs ++ ys) (vs ++ ws)
AllZip-append R [] ys [] ws h k = k
AllZip-append R (x ∷ xs) ys (v ∷ vs) ws h k = (h.0, AllZip-append R xs ys vs ws h.1 k)
AllZip-append R xs ys vs ws h k = absurd h

Answers-one : (line answer : List ℕ) → IsAnswer line answer → Answers (line ∷ []) (ended answer)
Answers-one line answer h = (answer ∷ [], (h, tt), sym (append-nil (ended answer)))

pub Answers-append : (xs ys : List (List ℕ)) (a b : List ℕ) → Answers xs a → Answers ys b → Answers (xs ++ ys) (a ++ b)
Answers-append xs ys a b h k = (
  h.0 ++ k.0,
  AllZip-append IsAnswer xs ys h.0 k.0 h.1 k.1,
  rw (h.2, k.2) (sym (flat_map-append ended h.0 k.0)),
)

front_all : (xs : List (List ℕ)) (a : List ℕ) → Answers xs a → AnswersFront xs a
front_all xs a h = (xs, [], sym (append-nil xs), h)

front_after : (xs ys : List (List ℕ)) (a b : List ℕ) → Answers xs a → AnswersFront ys b → AnswersFront (xs ++ ys) (a ++ b)
front_after xs ys a b h (f, r, e, k) = (xs ++ f, r, rw e (sym (append_assoc xs f r)), Answers-append xs f a b h k)

-- some lines are answered, and the answer to the next is torn
torn : (front : List (List ℕ)) (line : List ℕ) (rest : List (List ℕ)) (output answer begun left : List ℕ) → Answers front output
    → IsAnswer line answer → ended answer ≡ begun ++ left → AnswersTorn (front ++ line ∷ rest) (output ++ begun)
torn front line rest output answer begun left answers is_answer e =
    (front, rest, line, output, answer, begun, left, refl, answers, is_answer, e, refl)

torn_after : (xs ys : List (List ℕ)) (a b : List ℕ) → Answers xs a → AnswersTorn ys b → AnswersTorn (xs ++ ys) (a ++ b)
torn_after xs ys a b h (front, rest, line, output, answer, begun, left, divided, answers, is_answer, e, written_is) =
    rw (divided, written_is, sym (append_assoc xs front (line ∷ rest)), sym (append_assoc a output begun))
    (torn (xs ++ front) _ rest _ _ _ _ (Answers-append xs front a output h answers) is_answer e)

-- a front of a text that ends within its first part
front_of : (part rest written left : List ℕ) → part ++ rest ≡ written ++ left → length written ≤ length part → part ≡ written ++ drop (length written) part
front_of part rest written left e h =
    let n = length written in
    let same : take n part ≡ written = sym (take-append-le n part rest h) ∙ ap (λ l. take n l) e ∙ take-append_seam written left in
    sym (take-append-drop n part) ∙ ap (λ l. l ++ drop n part) same

-- a front that ends behind the first part
parted : (part rest written left : List ℕ) → part ++ rest ≡ written ++ left → length part ≤ length written
    → (written ≡ part ++ drop (length part) written) × (rest ≡ drop (length part) written ++ left)
parted part rest written left e h =
    let n = length part in
    (front_of written left part rest (sym e) h, sym (drop-append_seam part rest) ∙ ap (λ l. drop n l) e ∙ drop-append-le n written left h)

torn_at : (lines rest answers : List (List ℕ)) (written left : List ℕ) → AllZip IsAnswer lines answers
    → flat_map ended answers ≡ written ++ left → 0 < length left → AnswersTorn (lines ++ rest) written
torn_at [] rest [] written left h e some = absurd (omega (arith, ap length e, length-append written left))
torn_at (l ∷ ls) rest (a ∷ answers) written left h e some = elim (cases_lt (length written) (length (ended a))) [
  | inl lt ↦
      let none : Answers [] [] = ([], tt, refl) in
      torn [] l (ls ++ rest) [] a written _ none h.0 (front_of (ended a) (flat_map ended answers) written left e (omega arith))
  | inr ge ↦
      let parts = parted (ended a) (flat_map ended answers) written left e ge in
      let more = torn_at ls rest answers (drop (length (ended a)) written) left h.1 parts.1 some in
      rw parts.0 (torn_after (l ∷ []) (ls ++ rest) (ended a) _ (Answers-one l a h.0) more)
]
torn_at lines rest answers written left h e some = absurd h

-- a front of the answers of a beginning of the lines, with some bytes left, breaks off within the answer of a line
torn_front : (lines : List (List ℕ)) (out bytes : List ℕ) (u v : Option (List ℕ)) → AnswersFront lines out → bytes ≡ out
    → (w : WritesFront u v bytes) → AnswersTorn lines w.front
torn_front lines out bytes u v (front, rest, divided, h) same w =
    rw divided (torn_at front rest h.0 w.front w.left h.1 (sym h.2 ∙ sym same ∙ w.divided) w.some_left)

-- the answer to a last line
pub last_answer : (p old new : List ℕ) (n : ℕ) → old ≡ [] → n ≡ length p → (n == 0) ≡ false → GrowsByAnswer (p ++ []) old new
    → Answers (last_line p) new
last_answer [] old new n none long some g = absurd (false≢true (sym some ∙ ap (λ n. n == 0) long))
last_answer (b ∷ p) old new n none long some g =
    rw (g.grown, none) (Answers-one (b ∷ p) g.answer (rw (append-nil p) at g.is_answer))

-- some lines, and then the lines of what is left
more_lines : {all left rest : List ℕ} {ms : List (List ℕ)} (ls : List (List ℕ)) → HasLines left ms rest
    → all ≡ flat_map ended ls ++ left → list_all no_feed ls ≡ true → HasLines all (ls ++ ms) rest
more_lines ls h e k =
    record { divided = rw (flat_map-append, append_assoc, ← h.divided) e; each = rw (list_all-append, k, h.each); last = h.last }

-- all bytes are some lines and a rest
abbrev HasSomeLines : List ℕ → Type 0
HasSomeLines bytes = (lines : List (List ℕ)) × (rest : List ℕ) × HasLines bytes lines rest

one_more : (b : ℕ) (bytes : List ℕ) → HasSomeLines bytes → (b == 10 ≡ true) ⊎ (b == 10 ≡ false) → HasSomeLines (b ∷ bytes)
one_more b bytes (ls, r, h) (inl e) =
    ([] ∷ ls, r, record { divided = rw (eqb-true b 10 e) (ap (λ l. 10 ∷ l) h.divided); each = h.each; last = h.last })
one_more b bytes ([], r, h) (inr e) = ([], b ∷ r, record { divided = cc h.divided; each = refl; last = rw (e, h.last) refl })
one_more b bytes (l ∷ ls, r, h) (inr e) =
    ((b ∷ l) ∷ ls, r, record { divided = ap (λ l. b ∷ l) h.divided; each = rw (e, h.each) refl; last = h.last })

lines_of : (bytes : List ℕ) → HasSomeLines bytes
lines_of [] = ([], [], record { divided = refl; each = refl; last = refl })
lines_of (b ∷ bytes) = one_more b bytes (lines_of bytes) (cases_Bool (b == 10))

-- nothing of the chunk is cut yet
pub taken_none : (p bytes output : List ℕ) → output ≡ [] → Taken p bytes p bytes output
taken_none p bytes output e = record { lines = []; divided = refl; each = λ h. (refl, h); answers = ([], tt, e) }

-- a line of the rest, which goes on from what waits
pub taken_line : (p bytes waits rest old new text more after : List ℕ) → Taken p bytes waits rest old → rest ≡ text ++ more
    → HasFeed text → GrowsByAnswer (waits ++ first_line text) old new → after ≡ [] → Taken p bytes after (behind_line text ++ more) new
taken_line p bytes waits rest old new text more after t begins feed grown empty =
    let line = first_line text in
    let (split, plain) = divided text feed in
    let next = begins ∙ ap (λ l. l ++ more) split ∙ append_assoc line (10 ∷ behind_line text) more in
    rw empty (record {
      lines = t.lines ++ (waits ++ line) ∷ [];
      divided = t.divided ∙ rw next (simp (flat_map-append, append_assoc) refl);
      each = λ p_plain. (rw (list_all-append, list_all-append, (t.each p_plain).0, (t.each p_plain).1, plain) refl, refl);
      answers = rw grown.grown (Answers-append t.lines _ old _ t.answers (Answers-one (waits ++ line) grown.answer grown.is_answer));
    })

-- a stop before the end of the chunk
pub taken_stop : (p bytes waits rest out : List ℕ) → Taken p bytes waits rest out → (q : List ℕ) × Told AnswersFront p bytes q out
taken_stop p bytes waits rest out t =
    let (ms, q, h) = lines_of (waits ++ rest) in
    let ls = t.lines in
    (q, record { lines = ls ++ ms; has_lines = λ k. more_lines ls h t.divided (t.each k).0; said = (ls, ms, refl, t.answers) })

-- the end of the chunk, where no line ends
pub took_end : (result : Result ⊤ AllocError) (p bytes waits rest after output : List ℕ) → Taken p bytes waits rest output
    → no_feed rest ≡ true → after ≡ (if is_ok result then waits ++ rest else waits) → Took result p bytes after output
took_end (Err error) p bytes waits rest after output t plain e = taken_stop p bytes waits rest output t
took_end (Ok done) p bytes waits rest after output t plain e = rw e (record {
  lines = t.lines;
  has_lines = λ k. record { divided = t.divided; each = (t.each k).0; last = rw (list_all-append, (t.each k).1, plain) refl };
  said = t.answers;
})

-- what was read and answered, and then what is said of what was read after it
pub turned_on : (Said : List (List ℕ) → List ℕ → Type 0)
    → ((xs ys : List (List ℕ)) (x y : List ℕ) → Answers xs x → Said ys y → Said (xs ++ ys) (x ++ y))
    → (a b c u v w : Option (List ℕ)) (p q r bytes more : List ℕ) → Turned Answers a b u v p q bytes
    → Turned Said b c v w q r more → Turned Said a c u w p r (bytes ++ more)
turned_on Said join a b c u v w p q r bs cs t s = record {
  written = t.written ++ s.written;
  consumed = Consumes-trans a b c bs cs t.consumed s.consumed;
  appended = Appends-trans u v w t.written s.written t.appended s.appended;
  told = record {
    lines = t.told.lines ++ s.told.lines;
    has_lines = λ plain.
        let h = t.told.has_lines plain in
        more_lines t.told.lines (s.told.has_lines h.last) (rw (sym (append_assoc p bs cs), h.divided, append_assoc) refl) h.each;
    said = join t.told.lines s.told.lines t.written s.written t.told.said s.told.said;
  };
}

-- a run that read these bytes, of whose lines something is said, and wrote these
ran : {Said : List (List ℕ) → List ℕ → Type 0} {q b o : List ℕ} (a c u w : Option (List ℕ)) (result : Result ⊤ RunFault)
    (s : List ℕ) (t : Told Said [] b q o) → Consumes a c b → Appends u w s → Writes result c t.lines q s → Ran result a c u w
ran {q} {b} a c u w result s t i j k =
    let l = t.has_lines refl in
    (b, s, q, t.lines, i, j, l, k)

-- a run that reads and writes nothing
pub nothing_ran : (a u : Option (List ℕ)) → Ran (Err Memory) a a u u
nothing_ran a u =
    let lines : HasLines [] [] [] = record { divided = refl; each = refl; last = refl } in
    ([], [], [], [], Consumes-nil a, Appends-nil u, lines, ([], [], refl, ([], tt, refl)))

-- a fault after what was read
pub stopped_ran : (a b c u v w : Option (List ℕ)) (q bytes : List ℕ) → Turned Answers a b u v [] q bytes → (fault : RunFault)
    → Stopped b c v w q fault → Ran (Err fault) a c u w
stopped_ran a b c u v w q bytes t Read (kept, same) =
    ran a c u w (Err Read) t.written t.told (Consumes-kept a b c _ t.consumed kept) (Appends-kept u v w _ t.appended same) t.told.said
stopped_ran a b c u v w q bytes t Memory (more, rest, s) =
    let all = turned_on AnswersFront front_after a b c u v w [] q rest bytes more t s in
    ran a c u w (Err Memory) all.written all.told all.consumed all.appended all.told.said
stopped_ran a b c u v w q bytes t Write (more, rest, s) =
    let all = turned_on AnswersTorn torn_after a b c u v w [] q rest bytes more t s in
    ran a c u w (Err Write) all.written all.told all.consumed all.appended (inl all.told.said)

-- the end of the input
pub finished_ran : (a b u v w : Option (List ℕ)) (q bytes : List ℕ) → Turned Answers a b u v [] q bytes → IsAtEnd b
    → (result : Result ⊤ RunFault) → Finished v w q result → Ran result a b u w
finished_ran a b u v w q bytes t end (Ok done) (x, k, h) =
    ran a b u w (Ok done) _ t.told t.consumed (Appends-trans u v w _ x t.appended k) (end, Answers-append _ _ _ _ t.told.said h)
finished_ran a b u v w q bytes t end (Err Read) h = absurd h
finished_ran a b u v w q bytes t end (Err Memory) same =
    ran a b u w (Err Memory) t.written t.told t.consumed (Appends-kept u v w _ t.appended same) (front_all _ _ t.told.said)
finished_ran a b u v w q bytes t e (Err Write) (x, k, h) =
    let torn = torn_after t.told.lines (last_line q) t.written x t.told.said h in
    ran a b u w (Err Write) (t.written ++ x) t.told t.consumed (Appends-trans u v w _ x t.appended k) (inr (e, torn))

-- a write that failed in the midst of the answers to what was read
pub turn_torn : (a b u v : Option (List ℕ)) (p chunk after out bytes : List ℕ) (taken : Result ⊤ AllocError) → Consumes a b chunk
    → Took taken p chunk after out → bytes ≡ out → WritesFront u v bytes → Stopped a b u v p Write
turn_torn a b u v p chunk after out bytes (Ok done) read t same w =
    let said = torn_front t.lines out bytes u v (front_all t.lines out t.said) same w in
    let told : Told AnswersTorn p chunk after w.front = record { lines = t.lines; has_lines = t.has_lines; said = said } in
    (chunk, after, record { written = w.front; consumed = read; appended = w.appended; told = told })
turn_torn a b u v p chunk after out bytes (Err error) read (rest, t) same w =
    let said = torn_front t.lines out bytes u v t.said same w in
    let told : Told AnswersTorn p chunk rest w.front = record { lines = t.lines; has_lines = t.has_lines; said = said } in
    (chunk, rest, record { written = w.front; consumed = read; appended = w.appended; told = told })

-- the answer to a last line is written, or a front of it
pub finish_written : (u v : Option (List ℕ)) (p o b : List ℕ) (r : Result ⊤ RunFault) → Answers (last_line p) o → b ≡ o
    → OnOk r (Appends u v b) → OnErr r (WritesFront u v b) → IfErr r (λ e. e ≡ Write) → Finished u v p r
finish_written u v p o b (Ok done) h same all part fault = (b, all, rw same h)
finish_written u v p o b (Err Write) h same all w fault = (w.front, w.appended, torn_front _ o b u v (front_all _ o h) same w)
finish_written u v p o b (Err other) h same all part fault = cc
