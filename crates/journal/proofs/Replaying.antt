-- Records are replayed one after another: what was read is a history, and it and what is left tell what all tells.
use Rattle.std.proofs.Common.{◌≡◌, ℕ, zero, suc, ◌+◌, ◌-◌, ◌<◌, ◌≤◌, List, [], ◌∷◌, ◌++◌, length, take, Some, None, sym, refl, ap, ◌∙◌, subst, append_assoc, arith, length-append}
use Rattle.std.proofs.lemmas.List.{take_at}
use Rattle.entry_log.specs.Logs.{empty_log}
use Rattle.replica.specs.Model.{State}
use Rattle.letters.specs.Answers.{got, wrong}
use Rattle.letters.specs.declared.wrong.Wrong.{Wrong}
use Rattle.letters.specs.declared.wrong.Wrong.TheVariants.{Short, Out}
use Rattle.journal.specs.History.{PlainRecord, Tentative, Committed, state_with}
use Rattle.journal.specs.Records.{encode_record, bytes_of, read_record, with_record, replay_refusal, if_stands, if_read, history_from, history_in, entry_of, Stands, Replayed}
use Rattle.letters.specs.Laws.{EntryOk}
use Rattle.journal.proofs.RecordForms.{record_some}

pub record Replaying (hut : ℕ) (bytes rest : List ℕ) (whole : ℕ) (s : State) : Type 0 where
  pub done : List PlainRecord
  pub steps : ℕ
  pub enough : length rest ≤ steps
  pub state : s ≡ state_with hut done
  pub tells : history_from steps hut done rest ≡ history_in hut bytes
  pub len : whole ≡ length (bytes_of done)
  pub front : bytes ≡ bytes_of done ++ rest
  pub stands : Stands hut done

pub replaying_none : (s : State) (bytes rest : List ℕ) → s.log ≡ empty_log → rest ≡ bytes → Replaying s.hut bytes rest 0 s
replaying_none s bytes rest empty same =
    record {
      done = [];
      steps = length bytes;
      enough = omega (arith, ap length same);
      state = ap (λ l. record { hut = s.hut; log = l }) empty;
      tells = ap (history_from (length bytes) s.hut []) same;
      len = refl;
      front = sym same;
      stands = tt;
    }

pub with_one_more : (hut : ℕ) (r : PlainRecord) (rs : List PlainRecord) → with_record r (state_with hut rs) ≡ state_with hut (r ∷ rs)
with_one_more hut (Tentative e) rs = refl
with_one_more hut (Committed e) rs = refl

-- what the next record makes of the rest
tells_next :
    (hut n : ℕ) (r : PlainRecord) (rs : List PlainRecord) (rest left : List ℕ) → 1 ≤ n → read_record rest ≡ got r left → replay_refusal r (state_with hut rs) ≡ None
    → history_from n hut rs rest ≡ history_from (n - 1) hut (r ∷ rs) left
tells_next hut zero r rs rest left some read stands = absurd (omega arith)
tells_next hut (suc n) r rs rest left some read stands =
    ap (λ a. if_read a (λ q more. if_stands (replay_refusal q (state_with hut rs)) (history_from n hut (q ∷ rs) more) rs) rs) read
    ∙ ap (λ o. if_stands o (history_from n hut (r ∷ rs) left) rs) stands
    ∙ ap (λ k. history_from k hut (r ∷ rs) left) (omega arith)

module _ (hut : ℕ) (bytes rest : List ℕ) (whole : ℕ) (s : State) (was : Replaying hut bytes rest whole s) where
  open was use {done, steps, enough, state, tells, len, front, stands}

  all : whole + length rest ≡ length bytes
  all = omega (arith, len, ap length front, length-append (bytes_of done) rest)

  -- a record more
  module _ (r : PlainRecord) (left : List ℕ) (form : rest ≡ encode_record r ++ left) where
    -- what is left falls
    pub replaying_less : length left < length rest
    replaying_less = omega (arith, record_some r, ap length form, length-append (encode_record r) left)

    pub replaying_within : length left ≤ length bytes
    replaying_within = omega (arith, replaying_less, all)

    pub replaying_more :
        (t : State) → EntryOk (entry_of r) → read_record rest ≡ got r left → replay_refusal r s ≡ None → t ≡ with_record r s → Replaying hut bytes left (length bytes - length left) t
    replaying_more t ok read may next =
        let may_here = ap (replay_refusal r) (sym state) ∙ may in
        let size = ap length form in
        let parts = length-append (encode_record r) left in
        let some = record_some r in
        let grown = length-append (bytes_of done) (encode_record r) in
        record {
          done = r ∷ done;
          steps = steps - 1;
          enough = omega arith;
          state = next ∙ ap (with_record r) state ∙ with_one_more hut r done;
          tells = sym (tells_next hut steps r done rest left (omega arith) read may_here) ∙ tells;
          len = omega (arith, all);
          front = front ∙ ap (λ bs. bytes_of done ++ bs) form ∙ sym (append_assoc (bytes_of done) (encode_record r) left);
          stands = (ok, may_here, stands);
        }

  -- the end: what was done is all that the bytes tell
  ended : history_from steps hut done rest ≡ done → (t : State) → t ≡ s → Replayed hut bytes whole t
  ended none t same =
      let told : done ≡ history_in hut bytes = sym none ∙ tells in
      record {
        state = same ∙ state ∙ ap (state_with hut) told;
        len = len ∙ ap (λ rs. length (bytes_of rs)) told;
        within = omega (arith, all);
        front = ap (take whole) front ∙ take_at (bytes_of done) rest whole (sym len) ∙ ap bytes_of told;
        stands = subst (Stands hut) told stands;
      }

  pub replaying_wrong : (e : Wrong) (t : State) → read_record rest ≡ wrong e → t ≡ s → Replayed hut bytes whole t
  replaying_wrong e t read same = ended (none steps e read) t same
    where
      none : (n : ℕ) (e : Wrong) → read_record rest ≡ wrong e → history_from n hut done rest ≡ done
      none zero e read = refl
      none (suc n) Short read = rw read refl
      none (suc n) Out read = rw read refl

  pub replaying_refused :
      (r : PlainRecord) (left : List ℕ) (number : ℕ) (t : State) → read_record rest ≡ got r left → replay_refusal r s ≡ Some number → t ≡ s → Replayed hut bytes whole t
  replaying_refused r left number t read refused same = ended (none steps) t same
    where
      none : (n : ℕ) → history_from n hut done rest ≡ done
      none zero = refl
      none (suc n) =
          ap (λ a. if_read a (λ q more. if_stands (replay_refusal q (state_with hut done)) (history_from n hut (q ∷ done) more) done) done) read
          ∙ ap (λ o. if_stands o (history_from n hut (r ∷ done) left) done) (ap (replay_refusal r) (sym state) ∙ refused)
