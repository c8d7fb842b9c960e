-- What the parts of the program do.
use Rattle.std.specs.Prelude.{◌≡◌, ◌⊎◌, ◌^◌, ◌≤◌, ℕ, Bool, IsTrue, List, Option, string_bytes}
use Rattle.nsq_base.specs.Options.{IsInRange}
use Rattle.nsq_base.specs.declared.options.Options.{Options}
use Rattle.nsq_outside.specs.Hosts.{HostContent, HostState}
use Rattle.daemon_endings.specs.Endings.{status_of as serve_status}
use Rattle.daemon_endings.specs.Prints.{PrintsSo}
use Rattle.daemon_endings.specs.declared.ending.Ending.{Ending}
use Rattle.daemon_endings.specs.declared.ending.Ending.TheVariants.{BadOptions, Memory, Served}
use Rattle.daemon_endings.specs.declared.serving.ServeEnd.{ServeEnd}
use Rattle.daemon_callers.specs.Served.{Views}
use Rattle.daemon_main.specs.Asked.{HasAsked}
use Rattle.daemon_main.specs.Endings.{IsCaused}
use Rattle.daemon_main.specs.Parts.{KeepsFaults}
use Rattle.daemon_main.specs.Runs.{Runs}
use Rattle.daemon_main.specs.Sights.{Both, Sight}
use Rattle.daemon_main.specs.DrillTexts.{ShowsDrill}
use Rattle.nsqd_words.specs.declared.request.Request.{Request}
use Rattle.nsqd_words.specs.declared.request.Request.TheVariants as request

module _ {F C J K : Type 0} (tells : Bool) (host host' : HostState F C J) (old new : HostContent K) where
  -- nothing was done
  pub record DoesNothing : Type 0 where
    pub state : host' ≡ host
    pub content : new ≡ old

  -- the numbers of a drill were printed so, or memory was wanting for it
  abbrev pub DrillsSo : (seed count : ℕ) → Ending → Type 0
  DrillsSo seed count ending = ((text : List ℕ) × ShowsDrill seed count text × PrintsSo tells host host' old new text ending) ⊎ ((ending ≡ Memory) × DoesNothing)

module _ {F C J K : Type 0} (Told : Type 0) (tells tells_files tells_notes : Bool) (seen : Views K) (host host' : HostState F C J) (old new : HostContent K) (before after : Option (Sight K)) where
  -- it served with these options, and ended so
  pub record ServesSo (options : Options) (ending : Ending) : Type 0 where
    pub ended : ServeEnd
    pub is : ending ≡ Served ended
    pub asked : IsTrue tells → HasAsked options (serve_status ended) old new
    pub lines : IsTrue tells → new.lines ≡ old.lines
    pub faults : KeepsFaults host host'
    pub cause : Both before after (λ a b. IsCaused ended tells_files tells_notes a.files a.counts b.counts)
    pub runs : Told → Both before after (Runs seen options ended)

  -- what was asked for was done, and ended so
  abbrev pub Does : Request → Ending → Type 0
  Does (request.Serve options) ending = ServesSo options ending
  Does (request.Drill seed count) ending = DrillsSo tells host host' old new seed count ending
  Does (request.Help text) ending = PrintsSo tells host host' old new (string_bytes text) ending
  Does (request.Version text) ending = PrintsSo tells host host' old new (string_bytes text) ending
  Does request.Unknown ending = (ending ≡ BadOptions) × DoesNothing tells host host' old new

  -- what the words ask for was done, or memory was wanting for reading them
  abbrev pub Obeys : (Request → Type 0) → Ending → Type 0
  Obeys Asked ending = ((request : Request) × Asked request × Does request ending) ⊎ ((ending ≡ Memory) × DoesNothing tells host host' old new)

-- the request can be carried out: its options are in their ranges, and so are a drill's numbers
abbrev pub CanDo : Request → Type 0
CanDo (request.Serve options) = IsInRange options
CanDo (request.Drill seed count) = (seed ≤ 2 ^ 59) × (count ≤ 100000)
CanDo asked = Unit {0}
