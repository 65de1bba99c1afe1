-- The values of files, and when one was changed, by the calls that read them.
use Rattle.gc_links.proofs.Common.{◌≡◌, ◌+◌, ◌-◌, ◌<◌, ◌≤◌, ◌||◌, ℕ, suc, Bool, List, [], ◌∷◌, ◌++◌, length, take, get_or, slice_set, replicate, refl, sym, ap, subst, inl, ◌∙◌, arith, append_assoc, length-append, Option, Some, None, set-append_seam, length-take-le, take_all, take_more, no_value, no_values, path_of, IsValueIn, ValueFile, file_bytes, file_call, Call, Kept, NotKept, Makes, AreTaken, AreValues, IsLook, IsSeenAt, IsTakenBy, IsTouch, SignalsSeen, one_more, Moment}
use Rattle.gc_links.specs.Seeing.{none}
use Rattle.gc_links.specs.declared.system.files.SmallFile.{SmallFile}
use Rattle.gc_links.proofs.Making.{makes_none, makes_then}

-- a file was read
pub kept_taken : {old new : List Call} (path text : List ℕ) (result : Option SmallFile) (file : SmallFile) (bytes : List ℕ) (seconds now : ℕ) (value : List ℕ)
    → result ≡ Some file → new ≡ old ++ file_call text result ∷ [] → text ≡ path → bytes ≡ file_bytes file → IsValueIn bytes file.changed now seconds value
    → Makes old new (λ reads. IsTakenBy path seconds now reads value)
kept_taken {old = old} path text result file bytes seconds now value is added same bytes_are has = record {
  calls = Kept text file.changed (file_bytes file) ∷ [];
  added = added ∙ ap (λ r. old ++ file_call text r ∷ []) is;
  are = inl (Kept text file.changed (file_bytes file), refl, (same, subst (λ bs. IsValueIn bs file.changed now seconds value) bytes_are has));
}

-- a file couldn't be read
pub not_kept_taken : {old new : List Call} (path text : List ℕ) (result : Option SmallFile) (seconds now : ℕ)
    → result ≡ None → new ≡ old ++ file_call text result ∷ [] → text ≡ path → Makes old new (λ reads. IsTakenBy path seconds now reads no_value)
not_kept_taken {old = old} path text result seconds now is added same = record {
  calls = NotKept text ∷ [];
  added = added ∙ ap (λ r. old ++ file_call text r ∷ []) is;
  are = inl (NotKept text, refl, (same, refl));
}

-- there are as many values as files
taken_length : (now : ℕ) {files : List ValueFile} {reads : List Call} {values : List (List ℕ)} → AreTaken now files reads values → length values ≡ length files
taken_length now none = refl
taken_length now (one_more {files = fs} {reads = rs} {values = vs} was file more value is) =
    omega (arith, length-append vs (value ∷ []), length-append fs (file ∷ []), taken_length now was)

-- no file was read so far
pub values_none : (files : List ValueFile) (now : ℕ) (all : List (List ℕ)) → all ≡ no_values → AreValues (take 0 files) now [] all
values_none files now all e = record { values = []; taken = none; all_are = e }

-- one file more was read
pub values_more : (files : List ValueFile) (k now : ℕ) (reads more : List Call) (all : List (List ℕ)) (value : List ℕ) (d : ValueFile)
    → k < length files → length files ≤ 16 → AreValues (take k files) now reads all
    → IsTakenBy (path_of (get_or files k d)) (get_or files k d).seconds now more value
    → AreValues (take (k + 1) files) now (reads ++ more) (slice_set all k value)
values_more files k now reads more all value d h few is taken =
    let was = is.values in
    let next = was ++ value ∷ [] in
    let back = replicate (16 - length next) no_value in
    let same : length was ≡ k = taken_length now is.taken ∙ length-take-le k files (omega arith) in
    let room : 16 - length was ≡ suc (16 - length next) = omega (arith, length-append was (value ∷ []), same, h, few) in
    let before : all ≡ was ++ no_value ∷ back = is.all_are ∙ ap (λ n. was ++ replicate n no_value) room in
    record {
      values = next;
      taken = subst (λ fs. AreTaken now fs (reads ++ more) next) (sym (take_more files k d h)) (one_more is.taken (get_or files k d) more value taken);
      all_are =
          ap (λ l. slice_set l k value) before ∙ ap (λ i. slice_set (was ++ no_value ∷ back) i value) (sym same)
          ∙ set-append_seam was no_value back value ∙ sym (append_assoc was (value ∷ []) back);
    }

-- all files were read
pub values_all : (files : List ValueFile) (k now : ℕ) (reads : List Call) (all : List (List ℕ)) → length files ≤ k → AreValues (take k files) now reads all
    → AreValues files now reads all
values_all files k now reads all h is = subst (λ fs. AreValues fs now reads all) (take_all k files h) is

-- the file by which a cycle is asked for was read
pub touch_kept : {old new : List Call} (now : Option (List ℕ)) (text : List ℕ) (result : Option SmallFile) (file : SmallFile)
    → now ≡ Some text → result ≡ Some file → new ≡ old ++ file_call text result ∷ [] → Makes old new (λ reads. IsTouch now reads file.changed)
touch_kept {old = old} now text result file named is added = record {
  calls = Kept text file.changed (file_bytes file) ∷ [];
  added = added ∙ ap (λ r. old ++ file_call text r ∷ []) is;
  are =
      subst (λ at. IsTouch at (Kept text file.changed (file_bytes file) ∷ []) file.changed) (sym named)
      (Kept text file.changed (file_bytes file), refl, (refl, refl));
}

-- the file by which a cycle is asked for couldn't be read
pub touch_not_kept : {old new : List Call} (now : Option (List ℕ)) (text : List ℕ) (result : Option SmallFile)
    → now ≡ Some text → result ≡ None → new ≡ old ++ file_call text result ∷ [] → Makes old new (λ reads. IsTouch now reads 0)
touch_not_kept {old = old} now text result named is added = record {
  calls = NotKept text ∷ [];
  added = added ∙ ap (λ r. old ++ file_call text r ∷ []) is;
  are = subst (λ at. IsTouch at (NotKept text ∷ []) 0) (sym named) (NotKept text, refl, (refl, refl));
}

-- no file is named by which a cycle is asked for
pub touch_none : {old : List Call} (now : Option (List ℕ)) → now ≡ None → Makes old old (λ reads. IsTouch now reads 0)
touch_none now named = makes_none (λ reads. IsTouch now reads 0) (subst (λ at. IsTouch at [] 0) (sym named) (refl, refl))

-- the file by which a cycle is asked for was read, and then the files with values were
record IsReadAt (now : Option (List ℕ)) (files : List ValueFile) (utc touched : ℕ) (values : List (List ℕ)) (calls : List Call) : Type 0 where
  touch_calls : List Call
  read_calls : List Call
  touch : IsTouch now touch_calls touched
  reads : AreValues files utc read_calls values
  calls_are : calls ≡ touch_calls ++ read_calls

-- the files of the signals were looked for, and the others were read
pub seen_at : {old mid next new : List Call} (signals : SignalsSeen) (files : List ValueFile) (m : Moment) (here stops : Bool) (touched : ℕ) (values : List (List ℕ))
    → (m.stops || here) ≡ stops → Makes old mid (λ looks. IsLook signals.until looks here) → Makes mid next (λ reads. IsTouch signals.now reads touched)
    → Makes next new (λ reads. AreValues files m.utc reads values)
    → Makes old new (λ looks. IsSeenAt signals files looks m (record { elapsed = m.elapsed; utc = m.utc; stops = stops; touched = touched; values = values }))
seen_at signals files m here stops touched values e looked touch taken =
    makes_then (λ looks. IsLook signals.until looks here) (IsReadAt signals.now files m.utc touched values)
    (λ looks. IsSeenAt signals files looks m (record { elapsed = m.elapsed; utc = m.utc; stops = stops; touched = touched; values = values }))
    (λ xs rest look read. record {
      here = here;
      look_calls = xs;
      look = look;
      touched = touched;
      touch_calls = read.touch_calls;
      touch = read.touch;
      values = values;
      read_calls = read.read_calls;
      reads = read.reads;
      looks_are = ap (λ calls. xs ++ calls) read.calls_are;
      is = ap (λ b. record { elapsed = m.elapsed; utc = m.utc; stops = b; touched = touched; values = values }) (sym e);
    })
    looked
    (makes_then (λ reads. IsTouch signals.now reads touched) (λ reads. AreValues files m.utc reads values) (IsReadAt signals.now files m.utc touched values)
    (λ ys zs touch reads. record { touch_calls = ys; read_calls = zs; touch = touch; reads = reads; calls_are = refl })
    touch taken)
