-- What a solver is told, as its definitions have it.
use Rattle.std.specs.Prelude.{◌≡◌, Option, Some, None}
use Rattle.pub_facts.specs.Catalogue.{Catalogue, Job, Owner, contents_at, version_in}
use Rattle.pub_facts.specs.Facts.{Load, found_at, subject_of, trouble, under_names}
use Rattle.pub_term.specs.declared.cause.Cause.{Cause}
use Rattle.pub_trail.specs.Turn.{Loading, Lacks, Passes}
use Rattle.spm_api.specs.declared.replies.Said.{Said}
use Rattle.spm_key.specs.declared.key.Key.TheVariants as key
use Rattle.spm_version.specs.Release.{Parts}
use Rattle.pub_plain.specs.Answers.{Answers, catalogue_by, lookups_by}
use Rattle.pub_plain.specs.Given.{Given, answers_in}
use Rattle.pub_plain.specs.Loading.{read_contents, read_manifest}
use Rattle.pub_plain.specs.declared.reading.Stop.{Stop}
use Rattle.pub_plain.specs.declared.reading.Stop.TheVariants as stop
use Rattle.pub_plain.specs.declared.told.Told.{Told}

abbrev pub job_of : Told → Job
job_of told = record { root = told.root; asked = told.known.asked; tools = told.tools }

abbrev pub given_of : Told → Given
given_of told = record { lists = told.known.lists; long = told.long; urls = told.known.urls; manifests = told.manifests }

abbrev pub answers_to : Told → Answers
answers_to told = answers_in (given_of told)

abbrev pub catalogue_of : Told → Catalogue
catalogue_of told = catalogue_by (answers_to told)

-- the version of a load's owner
abbrev pub load_version : Told → Load → Option Parts
load_version told load = version_in (lookups_by (answers_to told)) load.owner load.choice

-- what is said of the manifest of a version of an owner
abbrev pub said_at : Answers → Owner → Option Parts → Option Said
said_at answers None version = None
said_at answers (Some identity) None = None
said_at answers (Some identity) (Some release) = answers (key.Manifest identity release)

-- the reading of a load before what it brings
abbrev pub read_load : Answers → Job → Load → Loading → Loading
read_load answers job load more =
    read_manifest answers load.owner (version_in (lookups_by answers) load.owner load.choice)
    (read_contents answers load.under
    (contents_at job (catalogue_by answers) load.owner (version_in (lookups_by answers) load.owner load.choice)) more)

-- why the load's owner can't be used
abbrev pub load_trouble : Told → Load → Cause
load_trouble told load =
    trouble (subject_of (lookups_by (answers_to told)) load (under_names load.under))
    (found_at (catalogue_of told) load.owner (load_version told load))

-- what stops a load comes before what it brings
abbrev pub stopped : Option Stop → Loading → Loading
stopped None more = more
stopped (Some (stop.Lacks asked)) more = Lacks asked
stopped (Some (stop.Passes wide)) more = Passes wide

-- the load is a package's or its trait's, and the package's version can't be used
abbrev pub IsUnusable : Told → Load → Type 0
IsUnusable told load = contents_at (job_of told) (catalogue_of told) load.owner (load_version told load) ≡ None
