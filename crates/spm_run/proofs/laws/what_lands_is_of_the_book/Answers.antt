use Rattle.spm_run.proofs.BookLemmas.{run_lands}
use Rattle.spm_run.proofs.laws.what_lands_is_of_the_book.Goals as goal

pub returns : goal.returns
returns g c = record {
  landed = λ same base fingerprints workers jobs old new outcomes cache book run books.
      run_lands g.L.Link.state same base fingerprints workers jobs old new outcomes cache book run books;
}
