mod SaidLemmas
mod TextLemmas
