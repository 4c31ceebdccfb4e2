-- Variables, constants and quoted strings: what is written of them.
use Rattle.std.specs.Prelude.{ℕ, suc, ◌+◌, ◌*◌, ◌-◌, ◌%◌, ◌^◌, ◌≤◌, ◌<◌, ◌≡◌, refl, Bool, true, false, List, [], ◌∷◌, ◌++◌, eqb, length, take, drop, set, Option, Some, None, Ok}
use Rattle.std.proofs.Common.{mod-eq_of_lt, arith, subst, sym, ap, ◌∙◌, append-nil, append_assoc, ne_eqb, lt-ltb, le-ltb, length-append, length-drop, drop-drop, length-take-le}
use Rattle.std.proofs.lemmas.List.Edits.{sets}
use Rattle.std.proofs.Math.Seq.{length-sets, take-length}
use Rattle.paper.specs.Bytes.{pick, every}
use Rattle.paper.specs.Classes.{line_end, colon, then_word, remark}
use Rattle.paper.specs.Tokens.{Token, assigned, variable, constant, string, out_of_range, out_of_range?, class}
use Rattle.paper.specs.Constants.{value, powers, six, six_at, five, zero_bytes}
use Rattle.paper.specs.Names.{names_in, name_bytes, known?, marked, add_name, add_names}
use Rattle.paper.specs.Items.{variable_at}
use Rattle.paper.specs.Grammar.{itself, given}
use Rattle.paper.specs.Line.{number_bytes, variable_bytes, begins?}
use Rattle.laws.specs.Names.{names_added, name_added, add_append, closed?, closed_append, closed_names, plain_name, names_of_more, length_marked}
use Rattle.buffers.specs.Sets.{written as read_back}
use Rattle.constant_bytes.specs.Numerals.{Written, digits_in, up, down, six_if, six_of, numeral_six, token_of_six}
use Rattle.constant_bytes.specs.Laws.{six_token}
use Rattle.constant_bytes.specs.declared.Numeral.{Numeral}
use Rattle.enter_scan.specs.Sees.{Sees, token_at}
use Rattle.enter_scan.proofs.ScanLaws.{rest_part}
use Rattle.enter_scan.specs.declared.Item.{Item as Found}
use Rattle.names_numbered.specs.Answers.{spelled, Numbers}
use Rattle.names_numbered.specs.declared.Numbered.{Numbered}
use Rattle.enter_item.specs.Draft.{low, lows, written, after, draft}
use Rattle.enter_item.specs.NameLaws.{new_is}
use Rattle.enter_item.specs.KindLaws.{name_length, array?, numeral_of, quoted_length, IsName, is_name, is_number, is_quoted}
use Rattle.enter_item.specs.Says.{Env, env, Mem, mem, refused, spot, known, Asks, item_of, Wrote, Took, VariableWritten, Outside, Counts}
use Rattle.enter_item.specs.SeesLaws.{next_of}
use Rattle.enter_item.specs.TookLaws.{calm?, calm_end, next_calm, passed_bytes}
use Rattle.enter_item.specs.ExpectLaws.{no_done}
use Rattle.enter_item.specs.declared.Spot.{Spot}
use Rattle.refusals.specs.Numbers.{number_of as refusal_number}
use Rattle.refusals.specs.declared.Refusal.TheVariants.{OutOfRange}
use Rattle.refusals.specs.declared.RefusedAt.{RefusedAt}

-- ---- names

-- an item that is a name, seen from some place
pub record NameSeen (s : List ℕ) (it : Found) : Type 0 where
  pub at : ℕ
  pub first : Bool
  pub sees : Sees s at first it
  pub least : 5 ≤ class (token_at s first it)
  pub most : class (token_at s first it) ≤ 10

-- its spelling
abbrev pub spelling : List ℕ → Found → List ℕ
spelling s it = spelled (take (name_length it.kind) (drop it.at s)) (array? it.kind)

pub name_facts : {s : List ℕ} {it : Found} (v : NameSeen s it) → IsName it.kind (drop it.at s) (it.end - it.at) v.first
name_facts {s} {it} v =
    is_name it.kind (drop it.at s) (it.end - it.at) v.first v.sees.holds (omega (arith, length-drop it.at s, v.sees.within))
    (omega (arith, v.sees.classed, v.least)) (omega (arith, v.sees.classed, v.most))

added_size_go : (n : List ℕ) (b : Bool) → length (name_bytes (pick b [] (n ∷ []))) ≤ length n
unfolding name_bytes
added_size_go n true = omega arith
added_size_go n false = omega (arith, length_marked n, length-append (marked n) [])

added_size : (ks : List (List ℕ)) (n : List ℕ) → length (name_bytes (name_added ks n)) ≤ length n
unfolding name_added
added_size ks n = added_size_go n (known? ks n)

added_plain_go : (n : List ℕ) (b : Bool) → plain_name n ≡ true → every plain_name (pick b [] (n ∷ [])) ≡ true
unfolding every
added_plain_go n true h = refl
added_plain_go n false h = rw h

added_plain : (ks : List (List ℕ)) (n : List ℕ) → plain_name n ≡ true → every plain_name (name_added ks n) ≡ true
unfolding name_added
added_plain ks n h = added_plain_go n (known? ks n) h

-- a token with a name was written, and the name where it is new
module _ {E : Env} {q : Spot} {m : Mem} {r : Numbered} {fresh new : List ℕ} (t : Token) (n : List ℕ) (bs : List ℕ) (e : ℕ)
    (g : Asks E q m) (plain : plain_name n ≡ true) (size : length n ≤ 2 * e - 2 * q.at) (later : q.at ≤ e) (within : e ≤ length E.text) (adds : after (known E q m) t ≡ add_name (known E q m) n)
    (drafts : draft (known E q m) (t ∷ []) ≡ bs) (few : length bs ≤ 7 * e - 7 * q.at) (d : Numbers (known E q m) n m.fresh q.named r fresh) (w : new ≡ sets m.line q.written bs) where
  abbrev ks : List (List ℕ)
  ks = known E q m

  abbrev bytes : List ℕ
  bytes = name_bytes (name_added ks n)

  fits : q.named + length bytes ≤ length m.fresh
  fits = omega (arith, added_size ks n, g.added, g.room, g.short)

  new_names : names_added ks (t ∷ []) ≡ name_added ks n
  new_names = new_is ks (name_added ks n) (t ∷ []) (adds ∙ add_append ks n)

  front : take r.size fresh ≡ take q.named m.fresh ++ bytes
  front = ap (λ (k : ℕ). take k fresh) d.size ∙ ap (take (q.named + length bytes)) d.fresh ∙ read_back m.fresh q.named bytes fits

  pub wrote_name : Wrote E q m (t ∷ []) (spot e (q.written + length bs) r.size) (mem new fresh)
  wrote_name = record {
    marks = record { line = w ∙ ap (sets m.line q.written) (sym drafts); fresh = d.fresh ∙ ap (λ (l : List (List ℕ)). sets m.fresh q.named (name_bytes l)) (sym new_names) };
    count = ap (λ (l : List ℕ). q.written + length l) (sym drafts);
    added = d.size ∙ ap (λ (l : List (List ℕ)). q.named + length (name_bytes l)) (sym new_names);
    knows =
        ap (λ (l : List ℕ). names_in E.names ++ names_in l) front
        ∙ ap (λ (l : List (List ℕ)). names_in E.names ++ l) (names_of_more (take q.named m.fresh) (name_added ks n) g.closed (added_plain ks n plain))
        ∙ sym (append_assoc (names_in E.names) (names_in (take q.named m.fresh)) (name_added ks n))
        ∙ sym (add_append ks n) ∙ sym adds;
  }

  pub asks_name : Asks E (spot e (q.written + length bs) r.size) (mem new fresh)
  asks_name = record {
    within = within;
    short = g.short;
    few = omega (arith, g.few);
    added = omega (arith, g.added, d.size, added_size ks n);
    room = omega (arith, g.room, ap length d.fresh, length-sets m.fresh q.named bytes);
    closed = ap closed? front ∙ closed_append (take q.named m.fresh) bytes g.closed (closed_names (name_added ks n));
  }

variable_draft : (ks : List (List ℕ)) (n : List ℕ) → draft ks (variable n ∷ []) ≡ lows (variable_bytes ks n)
unfolding draft written begins?
variable_draft ks n = append-nil (lows (variable_bytes ks n))

variable_after : (ks : List (List ℕ)) (n : List ℕ) → after ks (variable n) ≡ add_name ks n
unfolding add_names
variable_after ks n = refl

pub assigned_draft : (ks : List (List ℕ)) (n : List ℕ) → draft ks (assigned n ∷ []) ≡ 0 ∷ 0x36 ∷ lows (variable_bytes ks n)
unfolding draft written begins?
assigned_draft ks n = ap (λ (l : List ℕ). 0 ∷ 0x36 ∷ l) (append-nil (lows (variable_bytes ks n)))

pub assigned_after : (ks : List (List ℕ)) (n : List ℕ) → after ks (assigned n) ≡ add_name ks n
unfolding add_names
assigned_after ks n = refl

variable_plain : (t : Token) (n : List ℕ) → t ≡ variable n → begins? t ≡ false
unfolding begins?
variable_plain t n e = ap begins? e

calm_name : (c : ℕ) → 5 ≤ c → c ≤ 7 → calm? c ≡ true
calm_name c l h = rw (ne_eqb c line_end (λ e. omega arith), ne_eqb c colon (λ e. omega arith), ne_eqb c then_word (λ e. omega arith), ne_eqb c remark (λ e. omega arith))

-- the bytes of a number's token were written
token_put : {number at k : ℕ} {old new bs : List ℕ} → bs ≡ lows (number_bytes number) → new ≡ sets old at bs → k ≡ length bs → k ≤ 2 → VariableWritten number old at new k
unfolding variable_bytes
token_put {number} {at} {k} {old} {new} {bs} e w l f = record {
  line = λ ks n i. w ∙ ap (sets old at) (e ∙ ap (λ (x : ℕ). lows (number_bytes x)) i);
  size = λ ks n i. l ∙ ap length (e ∙ ap (λ (x : ℕ). lows (number_bytes x)) i);
  few = f;
}

-- a variable's token: a byte that holds its number with 80,
pub short_put : {number at : ℕ} {old new : List ℕ} → number < 128 → new ≡ set old at (0x80 + number) → VariableWritten number old at new 1
unfolding lows low number_bytes
short_put {number} h w = token_put {bs = (0x80 + number) ∷ []} (rw (lt-ltb number 128 h) (ap (λ (x : ℕ). x ∷ []) (sym (mod-eq_of_lt (omega arith))))) w refl (omega arith)

-- or 00 and a byte that holds its number less 128
pub long_put : {number at : ℕ} {old new : List ℕ} → 128 ≤ number → new ≡ sets old at (0 ∷ ((number - 128) % 256) ∷ []) → VariableWritten number old at new 2
unfolding lows low number_bytes
long_put {number} h w = token_put {bs = 0 ∷ ((number - 128) % 256) ∷ []} (rw (le-ltb number 128 h)) w refl (omega arith)

-- a variable
pub took_variable : {s names : List ℕ} {o k : ℕ} {q : Spot} {m : Mem} {it : Found} {r : Numbered} {fresh new : List ℕ} → Asks (env s o names) q m → (v : Sees s q.at false it) → 5 ≤ class (token_at s false it)
    → class (token_at s false it) ≤ 7 → Numbers (known (env s o names) q m) (spelling s it) m.fresh q.named r fresh → VariableWritten r.number m.line q.written new k
    → Took (env s o names) false q m itself (item_of (env s o names) (token_at s false it) it.at it.end) false (spot it.end (q.written + k) r.size) (mem new fresh)
unfolding given variable_at
took_variable {s} {names} {o} {k} {q} {m} {it} {r} {fresh} {new} g v l h d w =
    let E = env s o names in
    let n = spelling s it in
    let x = name_facts (record { at = q.at; first = false; sees = v; least = l; most = omega arith }) in
    let y = next_of v o names in
    let ks = known E q m in
    let bs = lows (variable_bytes ks n) in
    let size : k ≡ length bs = w.size ks n d.number in
    let t : token_at s false it ≡ variable n = x.token in
    let dr : draft ks (token_at s false it ∷ []) ≡ bs = ap (λ (z : Token). draft ks (z ∷ [])) t ∙ variable_draft ks n in
    let af : after ks (token_at s false it) ≡ add_name ks n = ap (after ks) t ∙ variable_after ks n in
    let sz : length n ≤ 2 * it.end - 2 * q.at = omega (arith, x.short, x.some, v.after, v.spans) in
    let fw : length bs ≤ 7 * it.end - 7 * q.at = omega (arith, x.some, v.after, v.spans, w.few) in
    let lt : q.at ≤ it.end = omega (arith, v.after, v.spans) in
    subst (λ (z : ℕ). Took E false q m itself (item_of E (token_at s false it) it.at it.end) false (spot it.end (q.written + z) r.size) (mem new fresh)) (sym size)
    record {
      pass = record {
        here = next_calm y (calm_name (class (token_at s false it)) l h);
        wrote = wrote_name (token_at s false it) n bs it.end g x.plain sz lt v.within af dr fw d (w.line ks n d.number);
        asks = asks_name (token_at s false it) n bs it.end g x.plain sz lt v.within af dr fw d (w.line ks n d.number);
        ahead = omega (arith, x.some, v.after, v.spans);
      };
      plain = variable_plain (token_at s false it) n t;
    }

-- ---- quoted strings

string_draft : (ks : List (List ℕ)) (t : Token) (b : List ℕ) → t ≡ string b → draft ks (t ∷ []) ≡ 0x0f ∷ length b ∷ b
unfolding draft written begins?
string_draft ks t b e = ap (λ (x : Token). draft ks (x ∷ [])) e ∙ append-nil (0x0f ∷ length b ∷ b)

string_after : (ks : List (List ℕ)) (t : Token) (b : List ℕ) → t ≡ string b → after ks t ≡ ks
unfolding add_names
string_after ks t b e = ap (after ks) e

string_plain : (t : Token) (b : List ℕ) → t ≡ string b → begins? t ≡ false
unfolding begins?
string_plain t b e = ap begins? e

-- its bytes were copied from the text
pub took_quoted : {s names : List ℕ} {o : ℕ} {q : Spot} {m : Mem} {it : Found} {l₁ l₂ new : List ℕ} {k : ℕ} → Asks (env s o names) q m → (v : Sees s q.at false it) → class (token_at s false it) ≡ 4
    → k ≡ quoted_length it.kind → l₁ ≡ set m.line q.written 0x0f → l₂ ≡ set l₁ (q.written + 1) k → new ≡ sets l₂ (q.written + 2) (take (it.at + 1 + k - (it.at + 1)) (drop (it.at + 1) s))
    → Took (env s o names) false q m itself (item_of (env s o names) (token_at s false it) it.at it.end) false (spot it.end (q.written + 2 + k) q.named) (mem new m.fresh)
unfolding given
took_quoted {s} {names} {o} {q} {m} {it} {l₁} {l₂} {new} {k} g v h kk p₁ p₂ p₃ =
    let E = env s o names in
    let d = drop it.at s in
    let x = is_quoted it.kind d (it.end - it.at) false v.holds (sym v.classed ∙ h) in
    let y = next_of v o names in
    let bs = take k (drop 1 d) in
    let t : token_at s false it ≡ string bs = x.token ∙ ap (λ (n : ℕ). string (take n (drop 1 d))) (sym kk) in
    let len : length bs ≡ k = length-take-le k (drop 1 d) (omega (arith, x.there, v.spans, v.within, length-drop 1 d, length-drop it.at s)) in
    let cut : take (it.at + 1 + k - (it.at + 1)) (drop (it.at + 1) s) ≡ bs =
    let z : it.at + 1 + k - (it.at + 1) ≡ k = omega arith in
    ap (λ (n : ℕ). take n (drop (it.at + 1) s)) z ∙ ap (take k) (sym (drop-drop 1 it.at s)) in
    let w1 : q.written + 1 ≡ suc q.written = omega arith in
    let w2 : q.written + 2 ≡ suc (suc q.written) = omega arith in
    let wrote : new ≡ sets m.line q.written (0x0f ∷ length bs ∷ bs) =
    p₃ ∙ ap (sets l₂ (q.written + 2)) cut ∙ ap (λ (l : List ℕ). sets l (q.written + 2) bs) (p₂ ∙ ap (λ (l : List ℕ). set l (q.written + 1) k) p₁)
    ∙ ap (λ (n : ℕ). sets (set (set m.line q.written 0x0f) (q.written + 1) k) n bs) w2
    ∙ ap (λ (n : ℕ). sets (set (set m.line q.written 0x0f) n k) (suc (suc q.written)) bs) w1
    ∙ ap (λ (n : ℕ). sets (set (set m.line q.written 0x0f) (suc q.written) n) (suc (suc q.written)) bs) (sym len) in
    let cm : calm? (class (token_at s false it)) ≡ true = ap calm? h in
    let few : length (0x0f ∷ length bs ∷ bs) ≤ 7 * (it.end - it.at) = omega (arith, len, x.there, kk) in
    let here = next_calm y cm in
    let stands : spot it.end (q.written + length (0x0f ∷ length bs ∷ bs)) q.named ≡ spot it.end (q.written + 2 + k) q.named =
    let z : q.written + length (0x0f ∷ length bs ∷ bs) ≡ q.written + 2 + k = omega (arith, len) in ap (λ (n : ℕ). spot it.end n q.named) z in
    subst (λ (z : Spot). Took E false q m itself (item_of E (token_at s false it) it.at it.end) false z (mem new m.fresh)) stands
    (record {
      pass = passed_bytes itself (0x0f ∷ length bs ∷ bs) g y here (v.moves (calm_end (class (token_at s false it)) cm)) (λ ks. string_draft ks (token_at s false it) bs t) (λ ks. string_after ks (token_at s false it) bs t) wrote few;
      plain = string_plain (token_at s false it) bs t;
    })

-- ---- constants

six_length : (v u d : ℕ) → length (six v u d) ≡ 6
unfolding six six_at five zero_bytes
six_length v u d = go (eqb v 0)
  where
    go : (b : Bool) → length (pick b (0 ∷ 0 ∷ 0 ∷ 0 ∷ 0 ∷ 0 ∷ []) (six_at (powers 97 (10 ^ d) (v * 10 ^ u * 100 ^ 49)) v u d)) ≡ 6
    go true = refl
    go false = refl

if_length : (b : Bool) (l x : List ℕ) → length l ≡ 6 → six_if b l ≡ Some x → length x ≡ 6
unfolding six_if
if_length true l x h e = let i : l ≡ x = cc in ap length (sym i) ∙ h
if_length false l x h e = let z : ◌≡◌ {A = ℕ} 0 1 = cc in absurd (omega arith)

bytes_length : (s : List ℕ) (n : Numeral) (x : List ℕ) → numeral_six s n ≡ Some x → length x ≡ 6
unfolding numeral_six six_of
bytes_length s n x e = if_length _ (six (value 0 (digits_in s n)) (up n) (down n)) x (six_length (value 0 (digits_in s n)) (up n) (down n)) e

constant_draft : (ks : List (List ℕ)) (t : Token) (b : List ℕ) → t ≡ constant b → draft ks (t ∷ []) ≡ 0x0e ∷ b
unfolding draft written begins?
constant_draft ks t b e = ap (λ (x : Token). draft ks (x ∷ [])) e ∙ append-nil (0x0e ∷ b)

constant_after : (ks : List (List ℕ)) (t : Token) (b : List ℕ) → t ≡ constant b → after ks t ≡ ks
unfolding add_names
constant_after ks t b e = ap (after ks) e

constant_plain : (t : Token) (b : List ℕ) → t ≡ constant b → begins? t ≡ false
unfolding begins?
constant_plain t b e = ap begins? e

constant_near : (t : Token) (b : List ℕ) → t ≡ constant b → out_of_range? t ≡ false
unfolding out_of_range?
constant_near t b e = ap out_of_range? e

far_token : (t : Token) → t ≡ out_of_range → out_of_range? t ≡ true
unfolding out_of_range?
far_token t e = ap out_of_range? e

six_in : (x : Option (List ℕ)) (b : List ℕ) → x ≡ Some b → token_of_six x ≡ constant b
unfolding token_of_six
six_in x b h = rw h

six_out : (x : Option (List ℕ)) → x ≡ None → token_of_six x ≡ out_of_range
unfolding token_of_six
six_out x h = rw h

-- a number's token is that of its six bytes
number_token : {s : List ℕ} {at : ℕ} {b : Bool} {it : Found} {x : Option (List ℕ)} → Sees s at b it → class (token_at s b it) ≡ 3 → x ≡ numeral_six (drop it.at s) (numeral_of it.kind) → token_at s b it ≡ token_of_six x
number_token {s} {at} {b} {it} {x} v h e =
    let y = is_number it.kind (drop it.at s) (it.end - it.at) b v.holds (sym v.classed ∙ h) in
    y.token ∙ sym (six_token (drop it.at s) (numeral_of it.kind)) ∙ ap token_of_six (sym e)

-- in range: its six bytes were written
pub counts_inside : {s names : List ℕ} {o : ℕ} {q : Spot} {m : Mem} {it : Found} {x : Option (List ℕ)} {six l₁ new : List ℕ} (b : Bool) → Asks (env s o names) q m → Sees s q.at b it → class (token_at s b it) ≡ 3
    → x ≡ numeral_six (drop it.at s) (numeral_of it.kind) → x ≡ Some six → l₁ ≡ set m.line q.written 0x0e → new ≡ sets l₁ (q.written + 1) six
    → Counts (env s o names) b (token_at s b it) it.at it.end q m (mem new m.fresh) (Ok (spot it.end (q.written + 7) q.named))
unfolding given
counts_inside {s} {names} {o} {q} {m} {it} {x} {six} {l₁} {new} b g v h e r p₁ p₂ =
    let E = env s o names in
    let tk = token_at s b it in
    let t : tk ≡ constant six = number_token v h e ∙ six_in x six r in
    let y = next_of v o names in
    let cm : calm? (class tk) ≡ true = ap calm? h in
    let len : length six ≡ 6 = bytes_length (drop it.at s) (numeral_of it.kind) six (sym e ∙ r) in
    let w1 : q.written + 1 ≡ suc q.written = omega arith in
    let wrote : new ≡ sets m.line q.written (0x0e ∷ six) = p₂ ∙ ap (λ (l : List ℕ). sets l (q.written + 1) six) p₁ ∙ ap (λ (n : ℕ). sets (set m.line q.written 0x0e) n six) w1 in
    let mv : it.at < it.end = v.moves (calm_end (class tk) cm) in
    let few : length (0x0e ∷ six) ≤ 7 * (it.end - it.at) = omega (arith, len) in
    let here = next_calm y cm in
    let stands : spot it.end (q.written + length (0x0e ∷ six)) q.named ≡ spot it.end (q.written + 7) q.named =
    let z : q.written + length (0x0e ∷ six) ≡ q.written + 7 = omega (arith, len) in ap (λ (n : ℕ). spot it.end n q.named) z in
    let took : Took E b q m itself (item_of E tk it.at it.end) false (spot it.end (q.written + 7) q.named) (mem new m.fresh) =
    subst (λ (z : Spot). Took E b q m itself (item_of E tk it.at it.end) false z (mem new m.fresh)) stands
    (record {
      pass = passed_bytes itself (0x0e ∷ six) g y here mv (λ ks. constant_draft ks tk six t) (λ ks. constant_after ks tk six t) wrote few;
      plain = constant_plain tk six t;
    }) in
    record {
      inside = λ z f.
          let i : spot it.end (q.written + 7) q.named ≡ z = cc in
          record { near = constant_near tk six t; took = subst (λ (u : Spot). Took E b q m itself (item_of E tk it.at it.end) false u (mem new m.fresh)) i took };
      outside = λ k f. no_done f;
    }

-- out of range: refused at its place
pub counts_outside : {s names : List ℕ} {o p : ℕ} {q : Spot} {it : Found} {x : Option (List ℕ)} (b : Bool) (m : Mem) → Sees s q.at b it → class (token_at s b it) ≡ 3
    → x ≡ numeral_six (drop it.at s) (numeral_of it.kind) → x ≡ None → p ≡ o + it.at → Counts (env s o names) b (token_at s b it) it.at it.end q m m (refused OutOfRange p)
counts_outside {s} {names} {o} {p} {q} {it} {x} b m v h e r w = record {
  inside = λ z f. no_done (sym f);
  outside = λ k f.
      let i : record { refusal = OutOfRange; place = p } ≡ k = cc in
      subst (λ (z : RefusedAt). Outside (env s o names) (token_at s b it) it.at m (refusal_number z.refusal) z.place m) i
      (record { number = refl; far = far_token (token_at s b it) (number_token v h e ∙ six_out x r); place = w; kept = refl });
}

-- ---- the parts of the text that are handed on

-- the part of the text that a name is
pub name_part : {k : ℕ} {b : Bool} (s : List ℕ) (it : Found) → k ≡ name_length it.kind → b ≡ array? it.kind → spelled (take (it.at + k - it.at) (drop it.at s)) b ≡ spelling s it
name_part {k} {b} s it e f =
    let z : it.at + k - it.at ≡ name_length it.kind = omega (arith, e) in
    ap (λ (n : ℕ). spelled (take n (drop it.at s)) b) z ∙ ap (spelled (take (name_length it.kind) (drop it.at s))) f

-- the whole table, and a name by its spelling
pub numbers_as : {n n' old new : List ℕ} {f : ℕ} {r : Numbered} (names : List ℕ) (more : List (List ℕ)) → n ≡ n' → Numbers (names_in (take (length names) names) ++ more) n old f r new → Numbers (names_in names ++ more) n' old f r new
numbers_as {n} {n'} {old} {new} {f} {r} names more e d =
    subst (λ (x : List ℕ). Numbers (names_in names ++ more) x old f r new) e (subst (λ (l : List ℕ). Numbers (names_in l ++ more) n old f r new) (take-length names) d)

-- the text from a number on holds it
pub number_written : {s : List ℕ} {at : ℕ} {b : Bool} {it : Found} {n : Numeral} → Sees s at b it → class (token_at s b it) ≡ 3 → n ≡ numeral_of it.kind
    → Written (take (length s - it.at) (drop it.at s)) n
number_written {s} {at} {b} {it} {n} v h e =
    let y = is_number it.kind (drop it.at s) (it.end - it.at) b v.holds (sym v.classed ∙ h) in
    subst (λ (l : List ℕ). Written l n) (sym (rest_part s it.at)) (subst (λ (z : Numeral). Written (drop it.at s) z) (sym e) y.written)

pub six_part : {n : Numeral} {x : Option (List ℕ)} (s : List ℕ) (it : Found) → n ≡ numeral_of it.kind → x ≡ numeral_six (take (length s - it.at) (drop it.at s)) n → x ≡ numeral_six (drop it.at s) (numeral_of it.kind)
six_part {n} {x} s it e f = f ∙ ap (λ (l : List ℕ). numeral_six l n) (rest_part s it.at) ∙ ap (numeral_six (drop it.at s)) e
