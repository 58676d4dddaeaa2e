-- Which of two layouts with one list of parents is taken changes nothing.
use Rattle.std.proofs.Common.{◌≡◌, ℕ, zero, suc, ◌+◌, ◌-◌, ◌==◌, ◌||◌, ◌/◌, ◌%◌, IsTrue, List, [], ◌∷◌, length, Option, Some, None, refl, sym, ap}
use Rattle.std.proofs.Common.{◌∙◌, subst, arith}
use Rattle.std.specs.Prelude.{min, slice_get, is_some, if◌then◌else◌}
use Rattle.nfs_model.specs.Types.{Asked, Ask, Refused, Undecoded}
use Rattle.nfs_model.specs.Tree.{Layout, VolumeLayout, Affinity, Serial, Aggregate, Volume, Logical, Stripe, Vbn, Range, path, begins, aggregate_in}
use Rattle.nfs_model.specs.Server.{Named, handle_of, most_bytes}
use Rattle.nfs_model.specs.Route.{Route, AtOnce, OfNames, OfBytesRead, OfBytesWritten, OfTwoHandles, OfVolume, OfAggregate, OfEverything, route}
use Rattle.nfs_model.specs.Home.{home_of_route, home_of_asked, named_by, logical_home, volume_home, bytes_home, rename_home, grow_home, span_bytes}
use Rattle.nfs_model.specs.Parts.{most_ranges}
use Rattle.affinity.specs.Alike.{AreAlike}
use Rattle.filer_state.specs.state.Parcels.{FilerParcel}
use Rattle.filer_state.specs.state.Contents.{FilerContents, each, logical_in, stripe_in, range_in, spare_in, contents_of, filer_contents}
use Rattle.filer_state.specs.state.Jobs.{Job, Serve, Inner, JobReply, Replied, Took, Gave, Surveyed}
use Rattle.filer_state.specs.state.Deeds.{IsHomeOrAbove, DoesJob}

module _ {P : Type 0} (l m : Layout) (s : AreAlike l m) (f : ℕ → Option (FilerParcel P)) where
  contents-same : (v : ℕ) → contents_of l f v ≡ contents_of m f v
  contents-same v = λ j. record {
    number = v;
    aggregate = s.aggregate v j;
    logical = logical_in (f (s.number (Logical v) j));
    stripes = each (λ i. stripe_in (f (s.number (Stripe v i) j))) 0 (s.stripes v j);
    ranges = each (λ r. range_in (f (s.number (Range v r) j))) 0 most_ranges;
  }

  pub filer-same : filer_contents l f ≡ filer_contents m f
  filer-same = λ j. record {
    spare = each (λ a. spare_in (f (s.number (Aggregate a) j))) 0 (s.aggregates j);
    volumes = each (λ v. contents-same v j) 0 (s.volumes j);
  }

-- ---- homes

both-found : {X : Type 0} (xs ys : List X) (i : ℕ) → length xs ≡ length ys → is_some (slice_get xs i) ≡ is_some (slice_get ys i)
both-found [] [] i e = refl
both-found [] (y ∷ ys) i e = absurd (omega arith)
both-found (x ∷ xs) [] i e = absurd (omega arith)
both-found (x ∷ xs) (y ∷ ys) zero e = refl
both-found (x ∷ xs) (y ∷ ys) (suc i) e = both-found xs ys i (omega arith)

grow-same : (o p : Option VolumeLayout) → is_some o ≡ is_some p → aggregate_in o ≡ aggregate_in p → grow_home o ≡ grow_home p
grow-same None None e a = refl
grow-same None (Some x) e a = absurd cc
grow-same (Some x) None e a = absurd cc
grow-same (Some x) (Some y) e a = ap (λ (n : ℕ). Some (Aggregate n)) a

module _ (l m : Layout) (s : AreAlike l m) where
  named-same : (handle : List ℕ) → named_by l handle ≡ named_by m handle
  named-same handle = λ j. handle_of (s.volumes j) handle

  bytes-same : (h : Option Named) (offset n : ℕ) → bytes_home l h offset n ≡ bytes_home m h offset n
  bytes-same None offset n = refl
  bytes-same (Some h) offset n = ap (λ (k : ℕ). if (n == 0) || (offset / span_bytes == (offset + n - 1) / span_bytes)
      then Some (Stripe h.volume ((h.fileid + offset / span_bytes) % k)) else Some (Logical h.volume)) (s.stripes h.volume)

  route-home-same : (r : Route) → home_of_route l r ≡ home_of_route m r
  route-home-same AtOnce = refl
  route-home-same (OfNames handle) = ap logical_home (named-same handle)
  route-home-same (OfBytesRead handle offset count) =
      ap (λ h. bytes_home l h offset (min count most_bytes)) (named-same handle) ∙ bytes-same (named_by m handle) offset (min count most_bytes)
  route-home-same (OfBytesWritten handle offset count) =
      ap (λ h. bytes_home l h offset (min count most_bytes)) (named-same handle) ∙ bytes-same (named_by m handle) offset (min count most_bytes)
  route-home-same (OfTwoHandles from to) = λ j. rename_home (named-same from j) (named-same to j)
  route-home-same (OfVolume handle) = ap volume_home (named-same handle)
  route-home-same (OfAggregate volume) = grow-same (slice_get l.volumes volume) (slice_get m.volumes volume)
      (both-found l.volumes m.volumes volume s.volumes) (s.aggregate volume)
  route-home-same OfEverything = refl

  home-of-asked-same : (asked : Asked) → home_of_asked l asked ≡ home_of_asked m asked
  home-of-asked-same (Ask call caller) = route-home-same (route call)
  home-of-asked-same (Refused reply) = refl
  home-of-asked-same Undecoded = refl

  path-same : (a : Affinity) → path l a ≡ path m a
  path-same Serial = refl
  path-same (Aggregate a) = refl
  path-same (Volume v) = ap (λ (a : ℕ). a ∷ v ∷ []) (s.aggregate v)
  path-same (Logical v) = ap (λ (a : ℕ). a ∷ v ∷ 0 ∷ []) (s.aggregate v)
  path-same (Stripe v i) = ap (λ (a : ℕ). a ∷ v ∷ 0 ∷ i ∷ []) (s.aggregate v)
  path-same (Vbn v) = ap (λ (a : ℕ). a ∷ v ∷ 1 ∷ []) (s.aggregate v)
  path-same (Range v r) = ap (λ (a : ℕ). a ∷ v ∷ 1 ∷ r ∷ []) (s.aggregate v)

  tried-same : (asked : Asked) (node : Affinity) → IsHomeOrAbove l asked node → IsHomeOrAbove m asked node
  tried-same asked node h =
      (h.0, sym (home-of-asked-same asked) ∙ h.1, subst IsTrue (λ j. begins (path-same node j) (path-same h.0 j)) h.2)

  -- an entry does in the one what it does in the other
  pub does-same : (node : Affinity) (job : Job) (old : FilerContents) (reply : JobReply) (new : FilerContents) → DoesJob l node job old reply new
      → DoesJob m node job old reply new
  does-same node (Serve call) old (Replied reply) new d = record {
    affinity = d.affinity;
    tried = tried-same call.asked node d.tried;
    works = d.works;
    starved = d.starved;
  }
  does-same node (Serve call) old (Took hand) new d = d
  does-same node (Serve call) old (Gave hand) new d = d
  does-same node (Serve call) old (Surveyed told) new d = d
  does-same node (Inner call) old reply new d = d
