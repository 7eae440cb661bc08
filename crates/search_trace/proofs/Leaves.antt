-- Runs of lines over a stack of open branches, and open branchings.
use Rattle.std.proofs.Common.{◌≡◌, List, [], ◌∷◌, ◌++◌, Option, Some, None, refl, ap, ◌∙◌, sym, append_assoc}
use Rattle.std.proofs.lemmas.List.{append-nil}
use Rattle.std.specs.Option.{option_and_then, option_map}
use Rattle.search_trace.specs.Leaves.{leaves}
use Rattle.search_trace.specs.Frames.{Frame, began, lines_of, lefts, turned, whole, IsOpen, AreOpen}

pub some_eq : {A : Type 0} → (a b : A) → Some a ≡ Some b → a ≡ b
some_eq a b h = cc

module _ {S L : Type 0} (step : S → L → Option (List S)) where
  abbrev pub after_kids : List L → List S → Option (List S) → Option (List S)
  after_kids ls ks r =
      option_and_then (λ (left : List S). leaves step left ls) (option_map (λ (new : List S). new ++ ks) r)

  -- branches below those that the lines read stay as they are
  after_more : (ls : List L) (r : Option (List S)) (ks rest outs : List S)
      → ((now : List S) → leaves step now ls ≡ Some outs → leaves step (now ++ rest) ls ≡ Some (outs ++ rest))
      → after_kids ls ks r ≡ Some outs → after_kids ls (ks ++ rest) r ≡ Some (outs ++ rest)
  after_more ls None ks rest outs on h = cc
  after_more ls (Some new) ks rest outs on h =
      ap (λ (s : List S). leaves step s ls) (sym (append_assoc new ks rest)) ∙ on (new ++ ks) h

  pub leaves_more : (ls : List L) (ks rest outs : List S) → leaves step ks ls ≡ Some outs
      → leaves step (ks ++ rest) ls ≡ Some (outs ++ rest)
  leaves_more [] ks rest outs h = ap (λ (s : List S). Some (s ++ rest)) (some_eq ks outs h)
  leaves_more (l ∷ ls) [] rest outs h = cc
  leaves_more (l ∷ ls) (k ∷ ks) rest outs h =
      after_more ls (step k l) ks rest outs (λ now. leaves_more ls now rest outs) h

  after_append : (ls ms : List L) (r : Option (List S)) (ks mid : List S)
      → ((now : List S) → leaves step now ls ≡ Some mid → leaves step now (ls ++ ms) ≡ leaves step mid ms)
      → after_kids ls ks r ≡ Some mid → after_kids (ls ++ ms) ks r ≡ leaves step mid ms
  after_append ls ms None ks mid on h = cc
  after_append ls ms (Some new) ks mid on h = on (new ++ ks) h

  pub leaves_append : (ls ms : List L) (ks mid : List S) → leaves step ks ls ≡ Some mid
      → leaves step ks (ls ++ ms) ≡ leaves step mid ms
  leaves_append [] ms ks mid h = ap (λ (s : List S). leaves step s ms) (some_eq ks mid h)
  leaves_append (l ∷ ls) ms [] mid h = cc
  leaves_append (l ∷ ls) ms (k ∷ ks) mid h = after_append ls ms (step k l) ks mid (λ now. leaves_append ls ms now mid) h

  -- ---- an open branching

  module _ (from : S) (f : Frame S L) (o : IsOpen step from f) where
    -- the lines up to the open child leave it and those that are left
    pub frame_leaves : leaves step (from ∷ []) (f.before ++ f.branching ∷ f.closed) ≡ Some (f.kid ∷ f.left)
    frame_leaves =
        leaves_append f.before (f.branching ∷ f.closed) (from ∷ []) (f.at ∷ []) o.leads
        ∙ ap (after_kids f.closed []) o.branches
        ∙ ap (λ (s : List S). leaves step s f.closed) (append-nil (f.done ++ f.kid ∷ f.left))
        ∙ leaves_more f.closed f.done (f.kid ∷ f.left) [] o.closes

    pub turned_is_open : (lines : List L) (k : S) (ks : List S) → f.left ≡ k ∷ ks
        → leaves step (f.kid ∷ []) lines ≡ Some [] → IsOpen step from (turned f lines k ks)
    turned_is_open lines k ks e h = record {
      leads = o.leads;
      branches =
          o.branches ∙ ap (λ (s : List S). Some (f.done ++ f.kid ∷ s)) e
          ∙ ap (λ (s : List S). Some s) (sym (append_assoc f.done (f.kid ∷ []) (k ∷ ks)));
      closes =
          leaves_append f.closed lines (f.done ++ f.kid ∷ []) (f.kid ∷ [])
          (leaves_more f.closed f.done (f.kid ∷ []) [] o.closes)
          ∙ h;
    }

    pub whole_closes : (lines : List L) → f.left ≡ [] → leaves step (f.kid ∷ []) lines ≡ Some []
        → leaves step (from ∷ []) (whole f lines) ≡ Some []
    whole_closes lines e h =
        ap (leaves step (from ∷ [])) (sym (append_assoc f.before (f.branching ∷ f.closed) lines))
        ∙ leaves_append (f.before ++ f.branching ∷ f.closed) lines (from ∷ []) (f.kid ∷ [])
        (frame_leaves ∙ ap (λ (s : List S). Some (f.kid ∷ s)) e)
        ∙ h

  -- the lines of a trace leave the branch that is worked on, and those that are left
  pub trace_leaves : (start : S) (fs : List (Frame S L)) → AreOpen step start fs
      → leaves step (start ∷ []) (lines_of fs) ≡ Some (began start fs ∷ lefts fs)
  trace_leaves start [] o = refl
  trace_leaves start (f ∷ fs) o =
      leaves_append (lines_of fs) (f.before ++ f.branching ∷ f.closed) (start ∷ []) (began start fs ∷ lefts fs)
      (trace_leaves start fs o.1)
      ∙ leaves_more (f.before ++ f.branching ∷ f.closed) (began start fs ∷ []) (lefts fs) (f.kid ∷ f.left)
      (frame_leaves (began start fs) f o.0)
